-- The loop of `advance_many`: how far the steps have come.
use Prim.Native.Nat.{◌≤◌, ◌-◌}
use Rattle.steps.proofs.Loop.{After}
use Rattle.steps.proofs.advance_many.Given as goal

abbrev pub invariant-loop-left : goal.invariant-loop-left
invariant-loop-left l =
    record {
      within : l.left ≤ l.cycles;
      so_far : After l.initial.state l.initial.delivery (l.cycles - l.left) l.exits l.state l.delivery;
    }

abbrev pub decreases-loop-left : goal.decreases-loop-left
decreases-loop-left l = l.left
