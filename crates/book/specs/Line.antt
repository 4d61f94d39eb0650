-- A line of the packet book, one per accepted packet, and its stage (01, The packet book).
use Rattle.std.specs.Prelude.{Bool, true, false, ◌&&◌, ℕ, eqb}
use Rattle.place.specs.Place.{Place, same_place}

-- what a line has of entry, place and exit (cycle and router): none, the first two, or entry and exit
pub data Stage : Type 0 where
  waiting : Stage
  placed : (entry : ℕ) (at : Place) → Stage
  left : (entry exit x y : ℕ) → Stage

pub record Line : Type 0 where
  pub flow : ℕ
  pub serial : ℕ
  pub offer : ℕ
  pub q : ℕ
  pub D : ℕ
  pub stage : Stage

-- a line without entry is waiting
abbrev pub is_waiting : Stage → Bool
is_waiting waiting = true
is_waiting (placed e at) = false
is_waiting (left e t x y) = false

-- the line has an exit
abbrev pub is_left : Stage → Bool
is_left waiting = false
is_left (placed e at) = false
is_left (left e t x y) = true

-- the line's place is this register
abbrev pub stands_in : Place → Stage → Bool
stands_in at waiting = false
stands_in at (placed e here) = same_place at here
stands_in at (left e t x y) = false

-- the line's exit is in cycle c from the router in column x and row y
abbrev pub left_at : (c x y : ℕ) → Stage → Bool
left_at c x y waiting = false
left_at c x y (placed e at) = false
left_at c x y (left e t x' y') = eqb t c && eqb x x' && eqb y y'

-- the line's entry, where it has one
abbrev pub entry_of : Stage → ℕ
entry_of waiting = 0
entry_of (placed e at) = e
entry_of (left e t x y) = e

-- the cycle of the line's exit, where it has one
abbrev pub exit_of : Stage → ℕ
exit_of waiting = 0
exit_of (placed e at) = 0
exit_of (left e t x y) = t
