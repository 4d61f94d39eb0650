-- A limit on a packet's deflections, row by row: how many it may have had behind each row of its way. Rests on nothing.
use Prim.Native.Nat.{ℕ, ◌-◌, ◌≤◌, ◌<◌}

-- the most D of a packet that goes S in each of its rows never falls from row to row
abbrev pub Rising : (ℕ → ℕ) → Type 0
Rising limit = (m n : ℕ) → m ≤ n → limit m ≤ limit n

-- a packet may be deflected in row n of its way
abbrev pub Bends : (ℕ → ℕ) → ℕ → Type 0
Bends limit n = limit (n - 1) < limit n

-- once in every row, as on any state
abbrev pub every_row : ℕ → ℕ
every_row n = n

pub every_rising : Rising every_row
every_rising m n h = h
