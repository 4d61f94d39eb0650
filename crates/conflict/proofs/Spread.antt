-- Laws of spreads: a spread is small. Rests on specs/Conflict and the laws of turning rows and offsets.
use mathlib.Core.Bool.{Bool, true, false, cond, ◌&&◌}
use mathlib.Core.Logic.{inl, inr}
use Prim.Native.Nat.{ℕ, ◌-◌, ◌≤◌, ◌<◌}
use native.Mathlib.Nat.{mul-le-mul}
use native.Mathlib.Omega.{arith}
use lib.Dec.{ltb, leb, eqb}
use Rattle.laws.proofs.Cases.{test}
use Rattle.torus.proofs.Axis.{offset_below}
use Rattle.flow.specs.declared.Flow.{Flow}
use Rattle.flow.specs.Plan.{Plan, most_size}
use Rattle.flow.specs.Offsets.{ΔX, ΔY, same_client}
use Rattle.turning.specs.Turning.{is_turning}
use Rattle.turning.proofs.Turning.{south_most}
use Rattle.std.specs.Prelude.{Some, None}
use Rattle.conflict.specs.Conflict.{Conflict, rows_to, columns_to, laps, conflict_east, conflict_south, conflict_by, conflict}
use Rattle.conflict.specs.Inner.{Pair, most_spread}

-- the conflict names no larger spread
pub data SpreadMost : Conflict → Type 0 where
  none : SpreadMost None
  some : {j : ℕ} → j ≤ most_spread → SpreadMost (Some j)

-- at most all rows of the torus, a lap round the row for each
pub laps_most : (sx sy : ℕ) → sx ≤ most_size → sy ≤ most_size → (turns : ℕ → Bool) (g : Flow) (r : ℕ) → r ≤ sy → laps sx sy turns g r ≤ most_spread
laps_most sx sy narrow short turns g r few =
    mul-le-mul {n₂ = most_size} {m₂ = most_size} (omega (arith, south_most sy turns g.ys r)) narrow

either : (b : Bool) {c d : Conflict} → SpreadMost c → SpreadMost d → SpreadMost (cond b c d)
either true h k = h
either false h k = k

module _ (sx sy : ℕ) (narrow : sx ≤ most_size) (short : sy ≤ most_size) (f g : Flow) (h : Pair sx sy f g) where
  pub rows_below : rows_to sy f g < sy
  rows_below = offset_below sy g.ys f.ys h.other.ys_on h.own.ys_on

  module _ (turns : ℕ → Bool) where
    few_laps : (r : ℕ) → r ≤ sy → laps sx sy turns g r ≤ most_spread
    few_laps = laps_most sx sy narrow short turns g

    east_most : SpreadMost (conflict_east sx sy turns f g)
    unfolding conflict_east
    east_most =
        either (eqb (rows_to sy f g) 0)
        (either (leb 1 (columns_to sx f g) && leb (columns_to sx f g) (ΔX sx g)) (some {j = 0} (omega arith)) none)
        (either (leb (rows_to sy f g) (ΔY sy g) && turns f.ys) (some (few_laps (rows_to sy f g - 1) (omega (arith, rows_below)))) none)

    south_spread : SpreadMost (conflict_south sx sy turns f g)
    unfolding conflict_south
    south_spread =
        either (eqb g.xd f.xs && leb (rows_to sy f g) (ΔY sy g)) (some (few_laps (rows_to sy f g) (omega (arith, rows_below)))) none

    pub spread_most : SpreadMost (conflict_by sx sy turns f g)
    unfolding conflict_by
    spread_most =
        either (same_client f g) (some {j = 0} (omega arith))
        (elim (test (ltb 0 (ΔX sx f))) [ inl east ↦ rw east east_most | inr south ↦ rw south south_spread ])

-- the spread of two flows of a plan is small
pub conflict_most : (p : Plan) → p.sx ≤ most_size → p.sy ≤ most_size → (f g : Flow) → Pair p.sx p.sy f g → SpreadMost (conflict p f g)
unfolding conflict
conflict_most p narrow short f g h = spread_most p.sx p.sy narrow short f g h (is_turning p g.xd)
