-- One row or column of the torus: `size` places, the first after the last (01, Torus and plan file).
use Rattle.std.specs.Prelude.{cond, ℕ, ◌+◌, ◌-◌, ◌%◌, eqb}

-- (to − from) mod size, of two places below the size
unfoldable pub offset : ℕ → ℕ → ℕ → ℕ
offset size from to = (to + size - from) % size

-- the next column east, or the next row south: after the last comes 0
unfoldable pub next : ℕ → ℕ → ℕ
next size at = cond (eqb (at + 1) size) 0 (at + 1)

-- (to − from) mod size, read as the size if that is 0
unfoldable pub lap : ℕ → ℕ → ℕ → ℕ
lap size from to = cond (eqb (offset size from to) 0) size (offset size from to)

-- the column to the west, or the row to the north: before 0 comes the last
unfoldable pub previous : ℕ → ℕ → ℕ
previous size at = cond (eqb at 0) (size - 1) (at - 1)
