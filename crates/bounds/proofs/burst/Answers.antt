-- `burst`: the refusal, or 20, or the window found for packets of a known flow, or 14.
use mathlib.Core.Path.{◌≡◌, sym, ◌∙◌}
use Rattle.std.proofs.lemmas.Result.{err_from_is_err_and}
use Rattle.bounds.specs.Bounds.{is_burst, burst_answer}
use native.Mathlib.Omega.{arith}
use Rattle.flow.specs.Plan.{flow_at}
use Rattle.file.specs.Layout.{plan_of}
use Rattle.window.specs.Window.{burst_window_of}
use Rattle.bounds.proofs.Opened.{flow_fits_lem}
use Rattle.bounds.proofs.Told.{told_or, burst_range}
use Rattle.bounds.proofs.Asked.{asked_refused, asked_done}
use Rattle.bounds.proofs.burst.Goals as goal
use Rattle.bounds.proofs.burst.Goals.{After-is_burst}

pub returns-in_err-plan : goal.returns-in_err-plan
unfolding burst_answer
returns-in_err-plan c =
    let p = err_from_is_err_and c.from_residual.result c.from_residual.ensures.1 in
    rw (p.1, p.2) (sym (asked_refused _ _ _ _ _ (sym c.in_err-plan.ensures.answer)))

-- whether the packets are a burst of the flow
held : (c : After-is_burst) → c.is_burst.result ≡ is_burst (flow_at (plan_of c.args.file.now) c.args.f) c.args.packets
held c = rw (c.is_burst.ensures, c.flow.ensures, c.in_ok-plan.ensures.plan.0)

pub returns-then-not-is_burst : goal.returns-then-not-is_burst
unfolding burst_answer
returns-then-not-is_burst c =
    rw (c.into.ensures, ← (held (goal.at.returns-then-not-is_burst c).After-is_burst), c.if-not-is_burst.true)
    (sym ((asked_done _ _ _ (sym c.in_ok-plan.ensures.answer)).answers _))

pub burst-requires-clause-packets : goal.burst-requires-clause-packets
burst-requires-clause-packets c =
    let known = c.in_ok-plan.ensures.plan.1 in
    let fits = flow_fits_lem _ known.1 _ known.0 in
    let own = flow_at (plan_of c.in_ok-plan.plan) c.args.f in
    let range = burst_range own c.args.packets (rw c.flow.ensures at (sym c.is_burst.ensures ∙ c.if-not-is_burst.false)) in
    (range.0, omega (arith, range.1, fits.burst_most))

pub returns : goal.returns
unfolding burst_answer
returns c =
    let own = told_or c.args.f (burst_window_of (plan_of c.args.file.now) c.args.f c.args.packets) in
    rw (
      c.ok_or.ensures.value,
      c.at.ensures,
      c.burst.ensures,
      c.of.ensures,
      c.in_ok-plan.ensures.plan.0,
      ← (held (goal.at.returns c).After-is_burst),
      c.if-not-is_burst.false,
    )
    (own ∙ sym ((asked_done _ _ _ (sym c.in_ok-plan.ensures.answer)).answers _))
