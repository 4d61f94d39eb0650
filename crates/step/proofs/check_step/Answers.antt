-- `check_step`: the state's cause or the step's; what none leaves.
use mathlib.Core.List.{List}
use mathlib.Core.Logic.{◌≢◌}
use mathlib.Core.Path.{◌≡◌, refl, sym, ◌∙◌}
use Prim.Native.Nat.{ℕ, ◌+◌, ◌<◌}
use native.Mathlib.Omega.{arith}
use lib.ListN.{length}
use Rattle.std.proofs.lemmas.Result.{err_from_is_err_and}
use Rattle.flow.specs.Limits.{last_clock, step_number}
use Rattle.flow.proofs.Limits.{step_passes}
use Rattle.state.specs.Read.{clock_in, plan_in, state_of}
use Rattle.state.specs.Forms.{state_number}
use Rattle.refusal.proofs.Causes.{cause_some}
use Rattle.state.proofs.Forms.{state_facts}
use Rattle.state.proofs.Over.{unless_passes, unless_refuses}
use Rattle.cycle.specs.Step.{step_on}
use Rattle.step.specs.Next.{Stepping, Judged}
use Rattle.step.proofs.check_step.Goals as goal

-- what 10 and 11 leave: room for every router's exit, and a clock that can go on
room : (w delivery : List ℕ) → step_number (state_of w).plan (length delivery) (state_of w).clock ≡ 0 → clock_in w < last_clock + 1
    → state_number w ≡ 0 → Stepping w delivery
unfolding state_of plan_in
room w delivery e fits formed =
    let passes = step_passes (state_of w).plan (length delivery) (state_of w).clock e in
    let other : clock_in w ≢ last_clock = passes.clock_other in
    record { facts = state_facts w formed; clock_below = omega arith; delivery_fits = passes.room_fits }

-- a state's number, other than 0
by_state : (w delivery : List ℕ) (n : ℕ) → n ≡ state_number w → (n ≡ 0 → ⊥) → Judged w delivery n
unfolding step_on
by_state w delivery n e other =
    record {
      refuses = λ h. rw (← e) (sym (unless_refuses n _ _ other));
      passes = λ zero'. absurd (other zero');
      runs = λ zero'. absurd (other zero');
    }

-- the step's own
by_step : (w delivery : List ℕ) (n : ℕ) → n ≡ step_number (state_of w).plan (length delivery) (state_of w).clock → clock_in w < last_clock + 1
    → state_number w ≡ 0 → Judged w delivery n
unfolding step_on
by_step w delivery n e fits formed =
    record {
      refuses = λ other. rw (formed, ← e) (sym (unless_passes 0 _ _ refl) ∙ sym (unless_refuses n _ _ other));
      passes = λ zero'. room w delivery (sym e ∙ zero') fits formed;
      runs = λ zero'. rw (formed, ← e) (sym (unless_passes 0 _ _ refl) ∙ sym (unless_passes n _ _ zero'));
    }

pub returns-in_err-read_state : goal.returns-in_err-read_state
returns-in_err-read_state c =
    let p = err_from_is_err_and c.from_residual.result c.from_residual.ensures.1 in
    let some = cause_some c.in_err-read_state.field-0.0 in
    rw (p.1, p.2) (by_state _ _ _ c.in_err-read_state.ensures.number (λ none. omega arith))

pub returns : goal.returns
returns c =
    by_step _ _ _ (rw c.in_ok-read_state.ensures.words at c.check_room.ensures) (c.type_inv.state 3).fits (sym c.in_ok-read_state.ensures.number)
