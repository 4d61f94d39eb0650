-- `burst`: a plan has no more flows than there is room for.
use native.Mathlib.Omega.{arith}
use Rattle.bounds.proofs.Opened.{few}
use Rattle.bounds.proofs.Bounds.burst.Goals as goal

pub burst_in-requires-else-trailer-le-FEW_FLOWS-clause-room : goal.burst_in-requires-else-trailer-le-FEW_FLOWS-clause-room
burst_in-requires-else-trailer-le-FEW_FLOWS-clause-room c = (rw c.self.view_is at (few _ c.self.invariant.0), omega arith)
