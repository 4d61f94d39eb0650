-- The conflict by the columns' words is the plan's. Rests on Spread and the laws of turning rows.
use mathlib.Core.Bool.{Bool}
use mathlib.Core.List.{List}
use mathlib.Core.Path.{◌≡◌}
use Prim.Native.Nat.{ℕ, ◌-◌, ◌<◌}
use native.Mathlib.Omega.{arith}
use lib.ListN.{get_or}
use Rattle.laws.specs.Bits.{is_set}
use Rattle.flow.specs.declared.Flow.{Flow}
use Rattle.flow.specs.Plan.{Plan}
use Rattle.turning.specs.Turning.{is_turning}
use Rattle.turning.specs.Columns.{TurningIn}
use Rattle.turning.proofs.Turning.{south_same}
use Rattle.conflict.specs.Conflict.{rows_to, conflict_east, conflict_south, conflict_by, conflict}
use Rattle.conflict.specs.Inner.{Pair}

-- tests that agree on the rows of the torus give the same conflict
conflict_same : (sx sy : ℕ) (f g : Flow) → Pair sx sy f g → (t u : ℕ → Bool) → ((y : ℕ) → y < sy → t y ≡ u y)
    → conflict_by sx sy t f g ≡ conflict_by sx sy u f g
unfolding conflict_by conflict_east conflict_south
conflict_same sx sy f g h t u e =
    let south = south_same sy t u (omega (arith, h.own.ys_on)) e g.ys in
    rw (e f.ys h.own.ys_on, south (rows_to sy f g - 1), south (rows_to sy f g))

pub conflict_told : (p : Plan) (columns : List ℕ) → TurningIn p columns → (f g : Flow) → Pair p.sx p.sy f g
    → conflict_by p.sx p.sy (is_set (get_or columns g.xd 0)) f g ≡ conflict p f g
unfolding conflict
conflict_told p columns tell f g h =
    conflict_same p.sx p.sy f g h (is_set (get_or columns g.xd 0)) (is_turning p g.xd) (λ y on. tell.told g.xd y h.other.xd_on on)
