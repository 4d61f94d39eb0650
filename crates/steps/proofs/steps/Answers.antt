-- `steps`: a step's refusal, or the steps.
use mathlib.Core.Path.{refl, sym, ap}
use native.Mathlib.Omega.{arith}
use Rattle.refusal.specs.Answer.{Answer}
use Rattle.state.specs.Outcome.{Outcome, Lent}
use Rattle.refusal.proofs.Causes.{cause_some}
use Rattle.state.proofs.Causes.{told_cause}
use Rattle.cycle.proofs.Keeps.{step_done}
use Rattle.cycle.proofs.Steps.{steps_refused, steps_done}
use Rattle.steps.proofs.steps.Goals as goal

pub returns-in_err-check_step : goal.returns-in_err-check_step
returns-in_err-check_step c =
    let some = cause_some c.in_err-check_step.field-0.0 in
    rw (told_cause (λ v. v) _ _ c.from_residual.ensures.1) (sym (steps_refused _ _ _ _ (c.in_err-check_step.ensures.refuses (λ none. omega arith))))

pub advance_front-requires : goal.advance_front-requires
advance_front-requires c =
    (step_done _ _ _ (ap (λ (o : Outcome Answer Lent). o.answer) (c.in_ok-check_step.ensures.runs refl))).formed

pub returns : goal.returns
returns c =
    steps_done _ _ _ _ (ap (λ (o : Outcome Answer Lent). o.answer) (c.in_ok-check_step.ensures.runs refl)) _ _ _ c.advance_front.ensures
