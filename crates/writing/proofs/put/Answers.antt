-- `put`: a run of stores that grows by a byte in each turn.
use native.Mathlib.Omega.{arith}
use lib.ListN.{length-set}
use lib.Seq.{length-take-le}
use Rattle.laws.proofs.Written.{wrote_more}
use Rattle.writing.proofs.put.Goals as goal

pub loop-i-preserved : goal.loop-i-preserved
loop-i-preserved c =
    let l = c.loop-i in
    let bytes = c.args.bytes.now in (
      rw length-set l.invariant.0,
      (wrote_more bytes l.i (omega arith) (record { place = rw (length-take-le l.i bytes (omega arith)); memory = l.invariant.1 })).memory,
    )
