-- `rows_south`: nothing is shifted out, and the bits that are left are the rows.
use native.Mathlib.Omega.{arith}
use lib.Pow.{pow_pos}
use Rattle.turning.proofs.Columns.{bit_fits, rows_told}
use Rattle.turning.proofs.rows_south.Goals as goal

pub overflow_sub-first : goal.overflow_sub-first
overflow_sub-first c = rw (bit_fits c.args.n (omega (arith, c.requires.0, c.requires.1.1.1))) (pow_pos c.args.n)

pub returns : goal.returns
returns c = rows_told _ _ _ _ c.requires.0 c.requires.1.0 c.requires.1.1.0 c.requires.1.1.1
