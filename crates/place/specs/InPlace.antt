-- Where a packet can be: what 01 asks of a register's packet in words that form a state (01, State memory).
use Rattle.std.specs.Prelude.{Bool, cond, ◌&&◌, ℕ, ◌+◌, ◌-◌, ◌*◌, leb, eqb}
use Rattle.torus.specs.Axis.{offset, lap}
use Rattle.flow.specs.declared.Flow.{Flow}
use Rattle.flow.specs.Offsets.{ΔX, ΔY}
use Rattle.place.specs.Place.{Place, W, N}

-- r = (row − ys) mod Sy
abbrev pub rows_done : ℕ → Flow → ℕ → ℕ
rows_done sy f y = offset sy f.ys y

-- in N of column x, e cycles after the entry: the column is xd, 1 ≤ r ≤ ΔY, D ≤ r−1, e = ΔX + r + D×Sx
abbrev pub in_north : (sx sy : ℕ) → Flow → (x r D e : ℕ) → Bool
in_north sx sy f x r D e =
    eqb x f.xd && leb 1 r && leb r (ΔY sy f) && leb D (r - 1) && eqb e (ΔX sx f + r + D * sx)

-- in W with r = 0: j = (column − xs) mod Sx, 1 ≤ j ≤ ΔX, D = 0, e = j
abbrev pub in_first_row : (sx : ℕ) → Flow → (x D e : ℕ) → Bool
in_first_row sx f x D e =
    let j : ℕ = offset sx f.xs x in
    leb 1 j && leb j (ΔX sx f) && eqb D 0 && eqb e j

-- in W with r ≥ 1: r ≤ ΔY, 1 ≤ D ≤ r, e = ΔX + r + (D−1)×Sx + j, where j = (column − xd) mod Sx, read as Sx if that is 0
abbrev pub in_later_row : (sx sy : ℕ) → Flow → (x r D e : ℕ) → Bool
in_later_row sx sy f x r D e =
    leb r (ΔY sy f) && leb 1 D && leb D r && eqb e (ΔX sx f + r + (D - 1) * sx + lap sx f.xd x)

-- a packet of flow f, e cycles after its entry and with D deflections, may be in this register; e ≥ 1
unfoldable pub is_in_place : (sx sy : ℕ) → Flow → Place → (D e : ℕ) → Bool
is_in_place sx sy f (N x y) D e = leb 1 e && in_north sx sy f x (rows_done sy f y) D e
is_in_place sx sy f (W x y) D e =
    leb 1 e && cond (eqb (rows_done sy f y) 0) (in_first_row sx f x D e) (in_later_row sx sy f x (rows_done sy f y) D e)
