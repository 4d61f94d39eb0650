-- Numbers in 01's ranges, as inner functions and laws ask for them. No call's promise names these.
use Rattle.std.specs.Prelude.{ℕ, ◌≤◌, ◌<◌, length}
use Rattle.flow.specs.declared.Flow.{Flow}
use Rattle.flow.specs.Plan.{Plan, flow_at, most_size, most_flows, most_period, most_burst}

-- a flow's numbers lie in 01's ranges
pub record FlowOk (sx sy : ℕ) (f : Flow) : Type 0 where
  pub xs_on : f.xs < sx
  pub ys_on : f.ys < sy
  pub xd_on : f.xd < sx
  pub yd_on : f.yd < sy
  pub period_least : 1 ≤ f.period
  pub period_most : f.period ≤ most_period
  pub burst_least : 1 ≤ f.burst
  pub burst_most : f.burst ≤ most_burst

-- a size of the torus lies in 01's range
pub record SizeOk (s : ℕ) : Type 0 where
  pub least : 1 ≤ s
  pub most : s ≤ most_size

-- a plan's numbers lie in 01's ranges
pub record PlanOk (p : Plan) : Type 0 where
  pub sx_least : 1 ≤ p.sx
  pub sx_most : p.sx ≤ most_size
  pub sy_least : 1 ≤ p.sy
  pub sy_most : p.sy ≤ most_size
  pub flows_least : 1 ≤ length p.flows
  pub flows_most : length p.flows ≤ most_flows
  pub flow_ok : (f : ℕ) → f < length p.flows → FlowOk p.sx p.sy (flow_at p f)
