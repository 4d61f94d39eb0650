-- A state: the plan, the clock, each flow's regulator and counts, and the link registers (01, State memory).
use Rattle.std.specs.Prelude.{List, ℕ, length, get_or}
use Rattle.laws.specs.Bounded.{tabulate}
use Rattle.laws.specs.Grid.{grid, cell_index}
use Rattle.flow.specs.Plan.{Plan, flow_at}
use Rattle.bucket.specs.Regulator.{full_bucket}
use Rattle.std.specs.Prelude.{None}
use Rattle.state.specs.declared.Tally.{Tally}
use Rattle.state.specs.declared.Cell.{Cell}

-- the cells stand by row, then column
pub record State : Type 0 where
  pub plan : Plan
  pub clock : ℕ
  pub tallies : List Tally
  pub cells : List Cell

-- nothing entered and nothing waiting
abbrev pub fresh_tally : (burst : ℕ) → Tally
fresh_tally burst = record { bucket = full_bucket burst; entered = 0; waiting = 0 }

abbrev pub empty_cell : Cell
empty_cell = record { west = None; north = None }

-- flow f's tally
abbrev pub tally_at : State → ℕ → Tally
tally_at s f = get_or s.tallies f (fresh_tally 0)

-- the cell of the router in column x and row y
abbrev pub cell_at : State → (x y : ℕ) → Cell
cell_at s x y = get_or s.cells (cell_index s.plan.sx x y) empty_cell

-- reset: clock, entered, waiting and count 0, tokens σ, all registers empty
abbrev pub reset_state : Plan → State
reset_state p =
    record {
      plan = p;
      clock = 0;
      tallies = tabulate (length p.flows) (λ f. fresh_tally (flow_at p f).burst);
      cells = grid p.sx p.sy (λ x y. empty_cell);
    }
