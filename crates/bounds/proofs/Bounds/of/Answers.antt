-- `of`: flow by flow, from none.
use mathlib.Core.Path.{◌≡◌, refl, ◌∙◌}
use native.Mathlib.Omega.{arith}
use lib.ListN.{length}
use Rattle.file.specs.Layout.{plan_of}
use Rattle.plan.proofs.Ranges.{plan_count}
use Rattle.turning.proofs.Columns.{told_none, told_more, told_all}
use Rattle.bounds.proofs.Opened.{flow_fits_lem}
use Rattle.bounds.proofs.Bounds.of.Goals as goal

pub invariant_of-result : goal.invariant_of-result
invariant_of-result c =
    let count = plan_count c.args.plan.now in
    let read = c.trailer-f-end.ensures.value in
    let all : c.loop-f.f ≡ length (plan_of c.args.plan.now).flows = omega (arith, rw read at c.loop-f-test.false, rw read at c.loop-f.auto.f-end) in
    (c.trailer-f-end.ensures.plan_ok, told_all _ _ (rw all at c.loop-f.invariant.1))

pub loop-f-init : goal.loop-f-init
loop-f-init c = (refl, told_none _ 16 (omega (arith, c.trailer-f-end.ensures.plan_ok.sx_most)))

pub loop-f-preserved : goal.loop-f-preserved
loop-f-preserved c =
    let read = c.trailer-f-end.ensures.value in
    let fits = flow_fits_lem _ c.trailer-f-end.ensures.plan_ok _ (rw read at c.loop-f-test.true) in
    let more = told_more _ _ fits _ c.loop-f.invariant.1 in
    (c.note.auto.columns ∙ c.loop-f.invariant.0, rw (c.note.ensures, c.flow.ensures) more)
