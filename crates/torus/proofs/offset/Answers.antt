-- `offset`: either way round is the offset, by the two cases of its law.
use native.Mathlib.Omega.{arith}
use Rattle.torus.proofs.Axis.{offset_is}
use mathlib.Core.Logic.{inl, inr}
use Rattle.torus.proofs.offset.Goals as goal

pub returns-then-from-to : goal.returns-then-from-to
returns-then-from-to c = offset_is _ _ _ c.requires.0 c.requires.1 _ (inl (omega arith))

pub returns-else-from-to : goal.returns-else-from-to
returns-else-from-to c = offset_is _ _ _ c.requires.0 c.requires.1 _ (inr (omega arith))
