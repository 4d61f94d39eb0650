-- `of`: the words tell the turning rows by the flows passed.
use mathlib.Core.Path.{◌≡◌}
use lib.ListN.{length}
use Rattle.file.specs.Layout.{plan_of}
use Rattle.turning.specs.Columns.{TurningBy}
use Rattle.bounds.proofs.Bounds.of.Given as goal

abbrev pub invariant-loop-f : goal.invariant-loop-f
invariant-loop-f l = (length l.columns ≡ 16) × TurningBy (plan_of l.plan) l.f l.columns
