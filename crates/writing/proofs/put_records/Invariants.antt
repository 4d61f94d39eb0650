-- `put_records`: the records so far.
use mathlib.Core.Path.{◌≡◌}
use lib.ListN.{length}
use lib.Seq.{sets}
use Rattle.writing.specs.Parts.{records_in}
use Rattle.writing.proofs.put_records.Given as goal

abbrev pub invariant-loop-f : goal.invariant-loop-f
invariant-loop-f l =
    (length l.target ≡ length l.initial.target) × (l.target ≡ sets l.initial.target l.start (records_in l.state l.f))
