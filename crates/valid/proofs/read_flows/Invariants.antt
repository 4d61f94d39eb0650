use mathlib.Core.Bool.{true}
use mathlib.Core.Path.{◌≡◌}
use Rattle.laws.specs.Bounded.{all_below}
use Rattle.state.specs.Forms.{flow_fits}
use Rattle.state.specs.Facts.{ColumnOffsets}
use Rattle.valid.proofs.read_flows.Given as goal

abbrev pub invariant-loop-f : goal.invariant-loop-f
invariant-loop-f l = (all_below l.f (flow_fits l.w) ≡ true) × ColumnOffsets l.w l.f l.dxs
