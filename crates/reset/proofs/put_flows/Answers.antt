-- `put_flows`: a run of stores that grows by a flow's words in each turn.
use mathlib.Core.Path.{◌≡◌, refl, ◌∙◌}
use native.Mathlib.Omega.{arith}
use lib.ListN.{length}
use Rattle.laws.proofs.Stands.{sets_more}
use Rattle.flow.specs.Plan.{flow_at}
use Rattle.file.specs.Layout.{plan_of}
use Rattle.plan.proofs.Accepted.{done_trailed}
use Rattle.plan.proofs.Ranges.{plan_count}
use Rattle.state.specs.Layout.{header_size, flow_size}
use Rattle.reset.specs.Fresh.{fresh_words}
use Rattle.reset.proofs.put_flows.Goals as goal

pub loop-f-init : goal.loop-f-init
loop-f-init c = (refl, refl)

pub loop-f-preserved : goal.loop-f-preserved
loop-f-preserved c =
    let l = c.loop-f in
    let a = c.args in
    let more = sets_more flow_size l.f (λ f. fresh_words (flow_at (plan_of a.plan.now) f)) (λ i. refl) a.w.now l.w header_size l.invariant.1 in
    (c.put_flow.auto.w ∙ l.invariant.0, rw (c.put_flow.ensures, c.flow.ensures, c.flow_place.ensures) more)

pub flow_place-requires : goal.flow_place-requires
flow_place-requires c =
    let most = rw (← c.trailer-f-end.ensures.value) at (done_trailed _ 0 c.trailer-f-end.ensures.accepted).frame.count_most in
    omega arith

pub returns : goal.returns
returns c =
    let count = rw (← c.trailer-f-end.ensures.value) at (plan_count c.args.plan.now) in
    let e : c.loop-f.f ≡ length (plan_of c.args.plan.now).flows = omega arith in
    rw e at c.loop-f.invariant.1
