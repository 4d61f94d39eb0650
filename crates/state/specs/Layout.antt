-- The layout of state memory: where its words stand, and its size (01, State memory).
use Rattle.std.specs.Prelude.{ℕ, ◌+◌, ◌*◌, length}
use Rattle.laws.specs.Grid.{cell_index}
use Rattle.flow.specs.Plan.{Plan}

-- Sx, Sy, F, clock, four zeros
abbrev pub header_size : ℕ
header_size = 8

-- of these, where the clock stands, and where the four zeros begin
abbrev pub clock_place : ℕ
clock_place = 3

abbrev pub zeros_place : ℕ
zeros_place = 4

-- ten per flow
abbrev pub flow_size : ℕ
flow_size = 10

-- of these, plan numbers
abbrev pub number_size : ℕ
number_size = 6

-- four per link register
abbrev pub register_size : ℕ
register_size = 4

-- a router has two link registers, W before N
abbrev pub router_size : ℕ
router_size = 2 * register_size

-- where the words of flow f stand
abbrev pub flow_place : ℕ → ℕ
flow_place f = header_size + flow_size * f

-- where the registers of the router in column x and row y stand, with F flows; registers run by row, then column
abbrev pub router_place : (F sx x y : ℕ) → ℕ
router_place F sx x y = flow_place F + router_size * cell_index sx x y

-- 8 + 10×F + 8×Sx×Sy
abbrev pub state_size : (F sx sy : ℕ) → ℕ
state_size F sx sy = flow_place F + router_size * (sx * sy)

-- the words that a plan's state takes
abbrev pub plan_size : Plan → ℕ
plan_size p = state_size (length p.flows) p.sx p.sy
