-- `flight`: the flight bound of the plan's flow, by the word of its destination column.
use Rattle.flow.specs.Ranges.{PlanOk}
use Rattle.file.specs.Layout.{plan_of}
use Rattle.turning.specs.Columns.{TurningIn}
use Rattle.flight.proofs.Flight.{bound_told}
use Rattle.bounds.proofs.Opened.{flow_fits_lem, word_small}
use Rattle.bounds.proofs.Bounds.flight.Goals as goal

pub flight_bound-requires : goal.flight_bound-requires
flight_bound-requires c =
    let file = c.args.self.now in
    let ok : PlanOk (plan_of file) = rw c.self.view_is at c.self.invariant.0 in
    let tell : TurningIn (plan_of file) c.self.inside.columns = rw c.self.view_is at c.self.invariant.1 in
    rw (c.torus.ensures.plan.0, c.torus.ensures.plan.1, c.flow-flow.ensures, c.self.view_is)
    (record {
      flow_ok = flow_fits_lem file ok _ c.requires;
      word_bound = word_small file ok _ c.requires _ tell;
    })

pub returns : goal.returns
returns c =
    let file = c.args.self.now in
    let ok : PlanOk (plan_of file) = rw c.self.view_is at c.self.invariant.0 in
    let tell : TurningIn (plan_of file) c.self.inside.columns = rw c.self.view_is at c.self.invariant.1 in
    rw (c.flight_bound.ensures, c.torus.ensures.plan.0, c.torus.ensures.plan.1, c.flow-flow.ensures, c.self.view_is)
    (bound_told _ _ tell _ (flow_fits_lem file ok _ c.requires))
