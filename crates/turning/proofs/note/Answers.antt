-- `note`: one bit more in one word, or none.
use borrow.Author.Tests.{eq-eqb, ne_eqb}
use native.Mathlib.Omega.{arith}
use Rattle.turning.specs.Columns.{noted}
use Rattle.turning.proofs.Columns.{bit_fits}
use Rattle.turning.proofs.note.Goals as goal

pub returns : goal.returns
unfolding noted
returns c =
    elim c.if-f.branch [
      | goal.then-f own ↦ rw (own.row-is, eq-eqb _ _ own.if-f.true)
      | goal.else-f other ↦ rw (other.row-is, ne_eqb _ _ other.if-f.false, bit_fits c.args.f.ys (omega (arith, c.requires.1)))
    ]
