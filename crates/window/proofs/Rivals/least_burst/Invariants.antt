-- `least_burst`: no number below t is a window.
use Prim.Native.Nat.{◌+◌, ◌-◌, ◌≤◌}
use Rattle.window.specs.Window.{most_window}
use Rattle.window.specs.Rivals.{demand_of}
use Rattle.window.proofs.Bursts.{Tried}
use Rattle.window.proofs.Rivals.least_burst.Given as goal

abbrev pub invariant-loop-t : goal.invariant-loop-t
invariant-loop-t g l = (1 ≤ l.t) × Tried (demand_of l.self-inside.kept.items) l.packets 1 l.t

abbrev pub decreases-loop-t : goal.decreases-loop-t
decreases-loop-t g l = 1 + most_window - l.t
