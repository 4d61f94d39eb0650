-- `step`: its refusal, or one cycle.
use mathlib.Core.Path.{refl, sym}
use native.Mathlib.Omega.{arith}
use Rattle.refusal.proofs.Causes.{cause_some}
use Rattle.state.proofs.Causes.{told_cause}
use Rattle.step.proofs.step.Goals as goal

pub returns-in_err-check_step : goal.returns-in_err-check_step
returns-in_err-check_step c =
    let some = cause_some c.in_err-check_step.field-0.0 in
    rw (told_cause (λ v. v) _ _ c.from_residual.ensures.1) (sym (c.in_err-check_step.ensures.refuses (λ none. omega arith)))

pub advance-requires : goal.advance-requires
advance-requires c = c.in_ok-check_step.ensures.passes refl

pub returns : goal.returns
returns c =
    let after = c.advance.ensures in
    rw (after.state_after, after.value, after.delivery_after) (sym (c.in_ok-check_step.ensures.runs refl))
