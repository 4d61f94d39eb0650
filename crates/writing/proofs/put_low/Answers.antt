-- `put_low`: a run of stores that grows by a byte in each turn.
use mathlib.Core.List.{map}
use Prim.Native.Nat.{◌<◌}
use native.Mathlib.Omega.{arith}
use lib.ListN.{length, length-set, length-map}
use lib.Seq.{length-take-le}
use Rattle.std.proofs.lemmas.List.{get_or-map}
use Rattle.laws.proofs.Written.{wrote_more}
use Rattle.writing.specs.Parts.{low_byte}
use Rattle.writing.proofs.put_low.Goals as goal

pub loop-i-preserved : goal.loop-i-preserved
loop-i-preserved c =
    let l = c.loop-i in
    let numbers = c.args.numbers in
    let bytes = map low_byte numbers in
    let below : l.i < length bytes = omega (arith, length-map numbers low_byte) in
    let more = wrote_more bytes l.i below (record { place = rw (length-take-le l.i bytes (omega arith)); memory = l.invariant.1 }) in
    (rw length-set l.invariant.0, rw (get_or-map low_byte numbers l.i 0 0 (omega arith)) at more.memory)
