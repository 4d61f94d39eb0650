-- Links: each output of a router leads to one register, and each register is fed by one output (01, One cycle, rule 2).
use Rattle.std.specs.Prelude.{ℕ}
use Rattle.torus.specs.Axis.{next, previous}
use Rattle.flow.specs.declared.Port.{Port}
use Rattle.flow.specs.declared.Port.TheVariants.{East, South}
use Rattle.flow.specs.Plan.{Plan}
use Rattle.place.specs.Place.{Place, W, N}

-- S reaches the N register to the south and E the W register to the east, from the router in column x and row y
unfoldable pub reach : Plan → (x y : ℕ) → Port → Place
reach p x y East = W (next p.sx x) y
reach p x y South = N x (next p.sy y)

-- an output of the router in column x and row y
pub record Output : Type 0 where
  pub x : ℕ
  pub y : ℕ
  pub port : Port

-- the output that reaches a register
unfoldable pub feeder : Plan → Place → Output
feeder p (W x y) = record { x = previous p.sx x; y = y; port = East }
feeder p (N x y) = record { x = x; y = previous p.sy y; port = South }
