-- `write`: the refusal's line, or the header and the lines; there is room for each.
use mathlib.Core.Path.{◌≡◌}
use Prim.Native.Nat.{◌≤◌}
use native.Mathlib.Numerals.{add-one}
use native.Mathlib.Omega.{arith}
use lib.ListN.{length}
use Rattle.laws.proofs.Written.{wrote_then, wrote_length}
use Rattle.flow.specs.Plan.{most_flows}
use Rattle.file.specs.Layout.{plan_of}
use Rattle.plan.proofs.Ranges.{plan_count}
use Rattle.bounds.proofs.Opened.{few as bounds_few}
use Rattle.table.specs.Table.{table_of}
use Rattle.table.proofs.write.Goals as goal
use Rattle.table.proofs.write.Goals.{After-trailer-count}

-- as many lines as the trailer counts, and no more than a plan may have
counted : (c : After-trailer-count) → length (plan_of c.args.file.now).flows ≡ c.trailer-count.result.count
counted c = rw (c.trailer-count.ensures.value, c.in-Ok.ensures.file) (plan_count c.args.file.now)

few : (c : After-trailer-count) → c.trailer-count.result.count ≤ most_flows
few c = rw c.trailer-count.ensures.value (bounds_few _ c.trailer-count.ensures.plan_ok)

pub returns-in-Err-clause-wrote : goal.returns-in-Err-clause-wrote
unfolding table_of
returns-in-Err-clause-wrote c = rw (← c.in-Err.ensures.answer, ← c.refused_line.ensures, ← c.as_str.ensures.value) c.put.ensures

pub put-end-requires-in-loop-f : goal.put-end-requires-in-loop-f
put-end-requires-in-loop-f c =
    let inv = c.loop-f.invariant in
    omega (
      arith,
      few (goal.at.put-end-requires-in-loop-f c).After-trailer-count,
      inv.room,
      wrote_length inv.lines,
      wrote_length c.put-end.ensures,
      c.put-end.ensures.place,
      c.as_str-in-loop-f.ensures.room,
      c.loop-f-test.true,
      c.requires,
    )

pub loop-f-preserved : goal.loop-f-preserved
loop-f-preserved c =
    let inv = c.loop-f.invariant in
    let put = c.put-end-in-loop-f.ensures in
    let next = rw (c.as_str-in-loop-f.ensures.value, c.line.ensures, c.in-Ok.ensures.file) at put in
    record {
      room = omega (arith, inv.room, put.place, c.as_str-in-loop-f.ensures.room);
      lines = rw add-one (wrote_then inv.lines next);
    }

pub returns-clause-wrote : goal.returns-clause-wrote
unfolding table_of
returns-clause-wrote c =
    let e : c.loop-f.f ≡ length (plan_of c.args.file.now).flows = omega (arith, counted (goal.at.returns-clause-wrote c).After-trailer-count) in
    rw (← c.in-Ok.ensures.answer, ← e) (wrote_then c.put-end.ensures c.loop-f.invariant.lines)

pub returns-clause-upper_bound : goal.returns-clause-upper_bound
returns-clause-upper_bound c =
    omega (
      arith,
      few (goal.at.returns-clause-upper_bound c).After-trailer-count,
      c.loop-f.invariant.room,
      c.put-end.ensures.place,
    )
