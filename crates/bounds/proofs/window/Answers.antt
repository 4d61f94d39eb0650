-- `window`: the refusal, or the window found for a known flow, or 14.
use mathlib.Core.Path.{sym, ◌∙◌}
use Rattle.std.proofs.lemmas.Result.{err_from_is_err_and}
use Rattle.bounds.specs.Bounds.{window_answer}
use Rattle.file.specs.Layout.{plan_of}
use Rattle.window.specs.Window.{window_of}
use Rattle.bounds.proofs.Told.{told_or}
use Rattle.bounds.proofs.Asked.{asked_refused, asked_done}
use Rattle.bounds.proofs.window.Goals as goal

pub returns-in_err-plan : goal.returns-in_err-plan
unfolding window_answer
returns-in_err-plan c =
    let p = err_from_is_err_and c.from_residual.result c.from_residual.ensures.1 in
    rw (p.1, p.2) (sym (asked_refused _ _ _ _ _ (sym c.in_err-plan.ensures.answer)))

pub returns : goal.returns
unfolding window_answer
returns c =
    let own = told_or c.args.f (window_of (plan_of c.args.file.now) c.args.f) in
    rw (c.ok_or.ensures.value, c.at.ensures, c.window.ensures, c.of.ensures, c.in_ok-plan.ensures.plan.0)
    (own ∙ sym ((asked_done _ _ _ (sym c.in_ok-plan.ensures.answer)).answers _))
