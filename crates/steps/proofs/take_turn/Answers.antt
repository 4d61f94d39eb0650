-- `take_turn`: the leap, or where it took none, a step.
use mathlib.Core.Path.{◌≡◌, refl, sym, ap, subst, ◌∙◌}
use native.Mathlib.Omega.{arith}
use lib.ListN.{length}
use Rattle.state.specs.Read.{state_of}
use Rattle.cycle.specs.Step.{deliveries}
use Rattle.flow.specs.Limits.{most_delivered}
use Rattle.steps.specs.Loop.{FreeBehind, Rooms, leapt, stepped}
use Rattle.steps.proofs.Behind.{behind_fits}
use Rattle.steps.proofs.take_turn.Goals as goal
use Rattle.steps.proofs.take_turn.Goals.{Else-k-gt0}

pub returns-then-k-gt0 : goal.returns-then-k-gt0
returns-then-k-gt0 c = leapt c.leap_if-k.ensures c.if-k-gt0.true refl refl

-- no leap leaves the words as they were
stood : (c : goal.Else-k-gt0) → c.leap_if-k.new.state ≡ c.args.state.now
stood c = c.leap_if-k.ensures.stays (omega (arith, c.if-k-gt0.false))

pub step_behind-more-requires : goal.step_behind-more-requires
step_behind-more-requires c =
    let free = (goal.at.step_behind-more-requires c).Else-k-gt0 in
    let a = c.args in record {
      free_behind = subst (λ w. FreeBehind w a.delivery.now a.exits) (sym (stood free)) c.requires.free_behind;
      rooms = subst (λ w. Rooms w a.entrants.now a.registers.now) (sym (stood free)) c.requires.rooms;
    }

pub overflow_add-result : goal.overflow_add-result
unfolding most_delivered
overflow_add-result c =
    let count = c.step_behind-more.ensures.value ∙ ap (λ w. length (deliveries (state_of w))) (stood (goal.at.overflow_add-result c).Else-k-gt0) in
    omega (arith, count, behind_fits _ _ _ c.requires.free_behind, c.requires.delivery_len_bound)

pub returns : goal.returns
returns c =
    let free = (goal.at.returns c).Else-k-gt0 in
    stepped refl (c.step_behind-more.ensures.state_after ∙ rw (stood free)) (rw (c.step_behind-more.ensures.value, stood free)) (c.step_behind-more.ensures.delivery_after ∙ rw (stood free))
