-- `flight_bound`: the refusal, or the flight bound of a known flow.
use mathlib.Core.Path.{sym}
use Rattle.std.proofs.lemmas.Result.{err_from_is_err_and}
use Rattle.bounds.specs.Bounds.{flight_bound_answer}
use Rattle.bounds.proofs.Asked.{asked_refused, asked_done}
use Rattle.bounds.proofs.flight_bound.Goals as goal

pub returns-in_err-plan : goal.returns-in_err-plan
unfolding flight_bound_answer
returns-in_err-plan c =
    let p = err_from_is_err_and c.from_residual.result c.from_residual.ensures.1 in
    rw (p.1, p.2) (sym (asked_refused _ _ _ _ _ (sym c.in_err-plan.ensures.answer)))

pub returns : goal.returns
unfolding flight_bound_answer
returns c =
    rw (c.flight.ensures, c.of.ensures, c.in_ok-plan.ensures.plan.0)
    (sym ((asked_done _ _ _ (sym c.in_ok-plan.ensures.answer)).answers _))
