-- `flow`: the record of a flow stands in an accepted file.
use Rattle.plan.proofs.Ranges.{flow_long}
use Rattle.plan.proofs.PlanFile.flow.Goals as goal

pub flow_from-requires : goal.flow_from-requires
flow_from-requires c = flow_long _ _ _ c.self.invariant.0 c.self.invariant.1.0 (rw (c.self.invariant.1.0, c.self.view_is) c.requires)
