-- `put_records`: a run of stores that grows by a record in each turn.
use mathlib.Core.List.{List}
use mathlib.Core.Path.{◌≡◌, refl, ◌∙◌}
use Prim.Native.Nat.{ℕ, ◌<◌}
use native.Mathlib.Omega.{arith}
use Rattle.laws.proofs.Stands.{sets_more}
use Rattle.file.specs.Layout.{record_size}
use Rattle.plan.specs.Written.{record_bytes}
use Rattle.state.specs.Layout.{flow_place}
use Rattle.state.specs.Read.{count_in, flow_in}
use Rattle.state.proofs.View.{view_plan, view_flow}
use Rattle.writing.proofs.Flows.{small_flow, record_length}
use Rattle.writing.proofs.put_records.Goals as goal
use Rattle.writing.proofs.put_records.Goals.{After-flow}

below : (c : goal.After-flow) → c.loop-f.f < count_in c.args.state.now
below c = omega arith

-- the flow that was read
flow : (c : goal.After-flow) → c.flow.result ≡ flow_in c.args.state.now (flow_place c.loop-f.f)
flow c = c.flow.ensures.value ∙ rw view_plan (view_flow c.args.state.now c.loop-f.f (below c))

pub record_numbers-requires : goal.record_numbers-requires
record_numbers-requires c =
    let here = (goal.at.record_numbers-requires c).After-flow in
    rw (flow here) (small_flow c.args.state.now c.flow.ensures.facts c.loop-f.f (below here))

pub loop-f-init : goal.loop-f-init
loop-f-init c = (refl, refl)

pub loop-f-preserved : goal.loop-f-preserved
loop-f-preserved c =
    let l = c.loop-f in
    let a = c.args in
    let bytes : ℕ → List ℕ = λ f. record_bytes (flow_in a.state.now (flow_place f)) in
    let more = sets_more record_size l.f bytes (λ i. record_length _) a.target.now l.target a.start l.invariant.1 in
    (c.put_low.auto.target ∙ l.invariant.0, rw (c.put_low.ensures, c.record_numbers.ensures, flow (goal.at.loop-f-preserved c).After-flow) more)

pub returns : goal.returns
returns c =
    let e : c.loop-f.f ≡ count_in c.args.state.now = omega arith in
    rw e at c.loop-f.invariant.1
