-- How the code keeps the turning rows: a word of bits for each column, found flow by flow. No call's promise names these.
use Rattle.std.specs.Prelude.{Bool, cond, List, ◌≡◌, ℕ, ◌^◌, ◌≤◌, ◌<◌, eqb, length, get_or, set}
use Rattle.std.specs.Int.Bits.{bit_or}
use Rattle.laws.specs.Bits.{is_set}
use Rattle.laws.specs.Bounded.{tabulate}
use Rattle.laws.specs.Count.{any}
use Rattle.flow.specs.declared.Flow.{Flow}
use Rattle.flow.specs.Plan.{Plan, flow_at}
use Rattle.turning.specs.Turning.{turns_into, is_turning}

-- the words of the columns tell a test of column and row: bit y of the word of column x
pub record Told (sx sy : ℕ) (t : (x y : ℕ) → Bool) (columns : List ℕ) : Type 0 where
  pub long : sx ≤ length columns
  pub small : (x : ℕ) → x < sx → get_or columns x 0 < 2 ^ sy
  pub told : (x y : ℕ) → x < sx → y < sy → is_set (get_or columns x 0) y ≡ t x y

-- they tell the plan's turning rows
abbrev pub TurningIn : Plan → List ℕ → Type 0
TurningIn p = Told p.sx p.sy (is_turning p)

-- row y is turning for column x by one of the first n flows
unfoldable pub turns_by : Plan → (n x y : ℕ) → Bool
turns_by p n x y = any (turns_into x y) (tabulate n (flow_at p))

-- and those that turn by one of the first n flows
abbrev pub TurningBy : Plan → (n : ℕ) → List ℕ → Type 0
TurningBy p n = Told p.sx p.sy (turns_by p n)

-- the flow's source row set in the word of its destination column, unless it starts in that column
unfoldable pub noted : List ℕ → Flow → List ℕ
noted columns f = set columns f.xd (bit_or (get_or columns f.xd 0) (cond (eqb f.xs f.xd) 0 (2 ^ f.ys)))
