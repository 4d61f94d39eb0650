-- Link registers by their place: W or N of a router (01, State memory).
use Rattle.std.specs.Prelude.{Bool, false, ◌&&◌, ℕ, eqb}

-- a link register: W or N of the router in column x and row y
pub data Place : Type 0 where
  W N : (x y : ℕ) → Place

-- the router whose register it is
abbrev pub column_of : Place → ℕ
column_of (W x y) = x
column_of (N x y) = x

abbrev pub row_of : Place → ℕ
row_of (W x y) = y
row_of (N x y) = y

abbrev pub same_place : Place → Place → Bool
same_place (W x y) (W x' y') = eqb x x' && eqb y y'
same_place (W x y) (N x' y') = false
same_place (N x y) (W x' y') = false
same_place (N x y) (N x' y') = eqb x x' && eqb y y'
