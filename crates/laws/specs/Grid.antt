-- A table of rows and columns as one list, by row, then column.
use Rattle.std.specs.Prelude.{List, ℕ, ◌+◌, ◌*◌}
use Rattle.laws.specs.Bounded.{tabulate}
use Rattle.laws.specs.Count.{join_below}

-- g x y for each column x below sx of each row y below sy
unfoldable pub grid : {A : Type 0} → (sx sy : ℕ) → (ℕ → ℕ → A) → List A
grid sx sy g = join_below sy (λ y. tabulate sx (λ x. g x y))

-- where column x of row y stands
abbrev pub cell_index : (sx x y : ℕ) → ℕ
cell_index sx x y = y * sx + x
