-- `write`: the lines so far stand behind the header, and none is longer than a line may be.
use Prim.Native.Nat.{◌+◌, ◌*◌, ◌≤◌}
use Rattle.laws.specs.Count.{join_below}
use Rattle.laws.specs.Written.{Wrote}
use Rattle.file.specs.Layout.{plan_of}
use Rattle.table.specs.Table.{line}
use Rattle.table.specs.Inner.{most_line}
use Rattle.table.proofs.write.Given as goal

abbrev pub invariant-loop-f : goal.invariant-loop-f
invariant-loop-f l =
    record {
      room : l.end ≤ l.initial.end + most_line * l.f;
      lines : Wrote l.initial.out l.initial.end (join_below l.f (line (plan_of l.file))) l.end l.out;
    }
