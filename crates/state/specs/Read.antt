-- The state that words have, read as 01 lays them out (01, State memory).
use Rattle.std.specs.Prelude.{cond, List, ℕ, ◌+◌, ◌-◌, eqb, get_or}
use Rattle.laws.specs.Bounded.{tabulate}
use Rattle.laws.specs.Grid.{grid}
use Rattle.flow.specs.declared.Flow.{Flow}
use Rattle.flow.specs.Plan.{Plan, flow_with}
use Rattle.state.specs.Register.{Register, packet_with}
use Rattle.std.specs.Prelude.{Some, None}
use Rattle.state.specs.Layout.{clock_place, number_size, register_size, flow_place, router_place}
use Rattle.state.specs.declared.Tally.{Tally}
use Rattle.state.specs.declared.Cell.{Cell}
use Rattle.state.specs.State.{State}

abbrev pub sx_in : List ℕ → ℕ
sx_in w = get_or w 0 0

abbrev pub sy_in : List ℕ → ℕ
sy_in w = get_or w 1 0

-- the count of flows F
abbrev pub count_in : List ℕ → ℕ
count_in w = get_or w 2 0

abbrev pub clock_in : List ℕ → ℕ
clock_in w = get_or w clock_place 0

-- a flow's six plan numbers at a place
abbrev pub flow_in : List ℕ → ℕ → Flow
flow_in w at =
    flow_with (get_or w at 0) (get_or w (at + 1) 0) (get_or w (at + 2) 0) (get_or w (at + 3) 0) (get_or w (at + 4) 0) (get_or w (at + 5) 0)

-- a flow's tokens, count, entered and waiting, behind its plan numbers
abbrev pub tally_in : List ℕ → ℕ → Tally
tally_in w at =
    record {
      bucket = record { tokens = get_or w (at + number_size) 0; count = get_or w (at + (number_size + 1)) 0 };
      entered = get_or w (at + (number_size + 2)) 0;
      waiting = get_or w (at + (number_size + 3)) 0;
    }

-- empty if the first word is 0, otherwise the packet of flow + 1
abbrev pub register_in : List ℕ → ℕ → Register
register_in w at =
    cond (eqb (get_or w at 0) 0) None
    (Some (packet_with (get_or w at 0 - 1) (get_or w (at + 1) 0) (get_or w (at + 2) 0) (get_or w (at + 3) 0)))

-- W before N
abbrev pub cell_in : List ℕ → ℕ → Cell
cell_in w at = record { west = register_in w at; north = register_in w (at + register_size) }

-- where the registers of the router in column x and row y stand
abbrev pub router_in : List ℕ → (x y : ℕ) → ℕ
router_in w x y = router_place (count_in w) (sx_in w) x y

unfoldable pub plan_in : List ℕ → Plan
plan_in w = record { sx = sx_in w; sy = sy_in w; flows = tabulate (count_in w) (λ f. flow_in w (flow_place f)) }

unfoldable pub state_of : List ℕ → State
state_of w =
    record {
      plan = plan_in w;
      clock = clock_in w;
      tallies = tabulate (count_in w) (λ f. tally_in w (flow_place f));
      cells = grid (sx_in w) (sy_in w) (λ x y. cell_in w (router_in w x y));
    }
