-- `wait_more`: one more than there were.
use mathlib.Core.Path.{◌∙◌, ap}
use Prim.Native.Nat.{◌+◌}
use native.Mathlib.Omega.{arith}
use Rattle.state.specs.State.{tally_at}
use Rattle.state.specs.Read.{state_of}
use Rattle.cycle.specs.Offer.{offer_state}
use Rattle.cycle.proofs.Facts.{tally_ok}
use Rattle.offer.proofs.Waits.{waiting_by}
use Rattle.offer.proofs.wait_more.Goals as goal

pub overflow_add-waiting : goal.overflow_add-waiting
overflow_add-waiting c =
    let ok = tally_ok _ c.requires.facts c.args.f c.requires.below in
    rw (c.tally-waiting.ensures.value, c.of.ensures) (omega arith)

pub returns : goal.returns
unfolding offer_state
returns c =
    c.put_waiting.ensures
    ∙ waiting_by (λ n. n + 1) _ _ _ (c.tally-waiting.ensures.value ∙ ap (λ w. tally_at (state_of w) c.args.f) c.of.ensures)
