-- Turning rows (02, U8). In a run from reset no packet is deflected in a row that isn't turning for its destination column.
use Rattle.std.specs.Prelude.{Bool, not, ◌&&◌, ℕ, ◌+◌, ◌%◌, eqb}
use Rattle.laws.specs.Bounded.{sum_below}
use Rattle.laws.specs.Count.{one, any}
use Rattle.flow.specs.declared.Flow.{Flow}
use Rattle.flow.specs.Plan.{Plan}

-- the flow starts in row y in a column other than x and has destination column x
abbrev pub turns_into : (x y : ℕ) → Flow → Bool
turns_into x y f = eqb f.ys y && (not (eqb f.xs x) && eqb f.xd x)

-- "A row is turning for column x if some flow starts in that row in another column and has destination column x." Every flow of the
-- plan counts.
unfoldable pub is_turning : Plan → (x y : ℕ) → Bool
is_turning p x y = any (turns_into x y) p.flows

-- how many of the first r rows south of row y pass a test; with r below Sy, row y itself isn't one of them
unfoldable pub rows_south : (sy : ℕ) → (ℕ → Bool) → (y r : ℕ) → ℕ
rows_south sy t y r = sum_below r (λ k. one (t ((y + (k + 1)) % sy)))

-- the rows turning for column x among the first r rows south of row y
abbrev pub turning_rows : Plan → (x y r : ℕ) → ℕ
turning_rows p x y r = rows_south p.sy (is_turning p x) y r
