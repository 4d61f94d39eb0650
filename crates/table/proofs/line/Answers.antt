-- `line`: the row of what is found for the flow is the plan's line.
use Rattle.flow.specs.Plan.{flow_at}
use Rattle.flow.specs.Ranges.{FlowOk}
use Rattle.file.specs.Layout.{plan_of}
use Rattle.bounds.proofs.Opened.{flow_fits_lem}
use Rattle.table.specs.Table.{line}
use Rattle.table.proofs.Rows.{wait_fits}
use Rattle.table.proofs.line.Goals as goal
use Rattle.table.proofs.line.Goals.{After-torus}

-- the flow is one of the plan's
in_range : (c : After-torus) → let p = plan_of c.args.plan.now in FlowOk p.sx p.sy (flow_at p c.args.f)
in_range c = flow_fits_lem _ c.torus.ensures.plan_ok _ c.requires.1

pub port-port-requires : goal.port-port-requires
port-port-requires c =
    let flow = in_range (goal.at.port-port-requires c).After-torus in
    rw (c.flow-flow.ensures, c.torus.ensures.plan.0) (record {
      xs_lt_sx = (flow.xs_on, flow.xd_on);
      sx_le_most_size = c.torus.ensures.plan_ok.sx_most;
    })

pub row-requires : goal.row-requires
row-requires c =
    rw (c.window.ensures, ← c.requires.0, c.flow-flow.ensures) (wait_fits _ _ (in_range (goal.at.row-requires c).After-torus))

pub returns : goal.returns
unfolding line
returns c =
    rw (
      c.row.ensures,
      c.port-port.ensures,
      c.flight.ensures,
      c.window.ensures,
      ← c.requires.0,
      c.flow-flow.ensures,
      c.torus.ensures.plan.0,
    )
