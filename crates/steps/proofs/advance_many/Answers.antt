-- `advance_many`: turn by turn, no check between. Rests on Loop.
use mathlib.Core.Bool.{true, false}
use mathlib.Core.Path.{◌≡◌, refl, sym, ◌∙◌}
use Prim.Native.Nat.{◌+◌, ◌-◌}
use native.Mathlib.Nat.{sub_self}
use native.Mathlib.Omega.{arith}
use Rattle.std.specs.Prelude.{Result, Ok, Err, is_ok}
use Rattle.refusal.specs.declared.Cause.{Cause}
use Rattle.refusal.specs.Answer.{number_in}
use Rattle.refusal.proofs.Causes.{cause_some}
use Rattle.steps.specs.Loop.{number_behind}
use Rattle.steps.proofs.Loop.{After, after_at, after_none, after_behind, after_end, after_turn, after_rooms, turn_most}
use Rattle.steps.proofs.advance_many.Goals as goal
use Rattle.steps.proofs.advance_many.Goals.{In-loop-left, Then-is_ok}

-- a check that ends well has number 0, and another has not
ok_number : (r : Result Unit Cause) → is_ok r ≡ true → number_in r ≡ 0
ok_number (Ok v) e = refl
ok_number (Err cause) e = cc

err_number : (r : Result Unit Cause) → is_ok r ≡ false → number_in r ≡ 0 → ⊥
err_number (Ok v) e = cc
err_number (Err cause) e = let some = cause_some cause in λ none. omega arith

after : (c : goal.In-loop-left) → let a = c.args in
    After a.state.now a.delivery.now (a.cycles - c.loop-left.left) c.loop-left.exits c.loop-left.state c.loop-left.delivery
after c = c.loop-left.invariant.so_far

pub loop-left-init : goal.loop-left-init
loop-left-init c =
    record {
      within = omega arith;
      so_far = after_at 0 (c.args.cycles - c.args.cycles) (sym (sub_self c.args.cycles)) (after_none _ _ c.requires.checked);
    }

pub check_next-requires : goal.check_next-requires
check_next-requires c = after_behind _ _ c.requires.checked _ _ _ _ (after c)

-- the next step isn't refused
free : (c : goal.Then-is_ok) → let l = c.loop-left in number_behind l.state l.delivery l.exits ≡ 0
free c = sym c.check_next.ensures ∙ ok_number _ (sym c.if-is_ok.ensures.value)

pub take_turn-t-requires-clause-free_behind : goal.take_turn-t-requires-clause-free_behind
take_turn-t-requires-clause-free_behind c =
    record {
      behind = after_behind _ _ c.requires.checked _ _ _ _ (after (goal.at.take_turn-t-requires-clause-free_behind c).In-loop-left);
      free = free (goal.at.take_turn-t-requires-clause-free_behind c).Then-is_ok;
    }

pub take_turn-t-requires-clause-rooms : goal.take_turn-t-requires-clause-rooms
take_turn-t-requires-clause-rooms c =
    after_rooms _ _ c.requires.checked _ _ _ _ (after (goal.at.take_turn-t-requires-clause-rooms c).In-loop-left) _ _ _ _ c.requires.rooms c.loop-left.auto.entrants c.loop-left.auto.registers

pub loop-left-preserved : goal.loop-left-preserved
loop-left-preserved c =
    let cycles = c.args.cycles in
    let left = c.loop-left.left in
    let taken = c.take_turn-t.result.cycles in
    let old = c.loop-left.invariant in
    let most = turn_most _ _ _ _ _ _ _ c.loop-left-test.true c.take_turn-t.ensures in
    let e : cycles - left + taken ≡ cycles - (left - taken) = omega (arith, most, old.within) in
    let next = after_turn _ _ c.requires.checked _ _ _ _ (after (goal.at.loop-left-preserved c).In-loop-left) (free (goal.at.loop-left-preserved c).Then-is_ok) left c.take_turn-t.result _ _ c.take_turn-t.ensures in
    record { within = omega arith; so_far = after_at _ _ e next }

pub returns-else-is_ok : goal.returns-else-is_ok
returns-else-is_ok c =
    after_end _ _ c.requires.checked _ _ _ _ (after (goal.at.returns-else-is_ok c).In-loop-left) c.args.cycles (omega arith)
    (λ e. err_number _ (sym c.if-is_ok.ensures.value) (c.check_next.ensures ∙ e))
