-- `put_low`: the bytes so far.
use mathlib.Core.Path.{◌≡◌}
use mathlib.Core.List.{map}
use lib.ListN.{length, take}
use lib.Seq.{sets}
use Rattle.writing.specs.Parts.{low_byte}
use Rattle.writing.proofs.put_low.Given as goal

abbrev pub invariant-loop-i : goal.invariant-loop-i
invariant-loop-i l = (length l.target ≡ length l.initial.target) × (l.target ≡ sets l.initial.target l.at (take l.i (map low_byte l.fn.numbers)))
