-- `step_reasons`: the step's refusal, 19, or one cycle that tells its reasons.
use mathlib.Core.Path.{refl}
use native.Mathlib.Omega.{arith}
use Rattle.refusal.proofs.Causes.{cause_some}
use Rattle.state.proofs.Causes.{told_cause}
use Rattle.cycle.proofs.Reasons.{refused_step, short_list, told}
use Rattle.step.specs.Next.{Stepping}
use Rattle.telling.proofs.step_reasons.Goals as goal
use Rattle.telling.proofs.step_reasons.Goals.{In_ok-check_step}

pub returns-in_err-check_step : goal.returns-in_err-check_step
returns-in_err-check_step c =
    let some = cause_some c.in_err-check_step.field-0.0 in
    rw (told_cause (λ v. v) _ _ c.from_residual.ensures.1) (refused_step _ _ _ _ (c.in_err-check_step.ensures.refuses (λ none. omega arith)))

-- nothing refuses the step
free : (c : goal.In_ok-check_step) → Stepping c.args.state.now c.args.delivery.now
free c = c.in_ok-check_step.ensures.passes refl

pub bounds-state-2 : goal.bounds-state-2
bounds-state-2 c =
    let long = (free (goal.at.bounds-state-2 c).In_ok-check_step).facts.long in
    omega arith

pub overflow_cast-state : goal.overflow_cast-state
overflow_cast-state c =
    let few = (free (goal.at.overflow_cast-state c).In_ok-check_step).facts.header.count_most in
    omega arith

pub returns-then-reasons-state : goal.returns-then-reasons-state
returns-then-reasons-state c =
    rw c.into.ensures (short_list _ _ _ _ _ (c.in_ok-check_step.ensures.runs refl) c.if-reasons-state.true)

pub advance_telling-requires : goal.advance_telling-requires
advance_telling-requires c =
    record {
      stepping = free (goal.at.advance_telling-requires c).In_ok-check_step;
      state_in_bounds = c.if-reasons-state.false;
    }

pub returns : goal.returns
returns c =
    let after = c.advance_telling.ensures in
    let cycle = after.cycle in
    rw (cycle.state_after, cycle.value, cycle.delivery_after, after.reasons_after) (told _ _ _ _ _ (c.in_ok-check_step.ensures.runs refl) c.if-reasons-state.false)
