-- `strange`: no flow of the plan, or impossible for its flow.
use mathlib.Core.Path.{◌∙◌}
use borrow.Author.Tests.{le-leb}
use Rattle.cycle.proofs.Facts.{flow_ok}
use Rattle.delivery.specs.Inner.{as_told}
use Rattle.delivery.proofs.Groups.{no_flow, of_flow_lem}
use Rattle.delivery.proofs.strange.Goals as goal

pub returns-then-flows-d : goal.returns-then-flows-d
returns-then-flows-d c =
    le-leb _ _ c.if-flows-d.true ∙ no_flow c.args.state.now (as_told c.args.d) (rw (← c.flows.ensures.value) c.if-flows-d.true)

pub impossible-requires : goal.impossible-requires
impossible-requires c =
    rw (c.torus.ensures.sizes.0, c.torus.ensures.sizes.1, c.flow.ensures.value)
    (flow_ok _ c.flows.ensures.facts _ (rw (← c.flows.ensures.value) c.if-flows-d.false))

pub returns-else-flows-d : goal.returns-else-flows-d
returns-else-flows-d c =
    rw (c.impossible.ensures, c.torus.ensures.sizes.0, c.torus.ensures.sizes.1, c.flow.ensures.value)
    (of_flow_lem c.args.state.now (as_told c.args.d) (rw (← c.flows.ensures.value) c.if-flows-d.false))
