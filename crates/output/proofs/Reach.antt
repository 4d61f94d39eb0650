-- The registers that the outputs of a grid's routers reach are registers of the grid. Rests on the laws of a torus and of tables.
use Rattle.std.proofs.Common.{ℕ, ◌+◌, ◌≤◌, ◌<◌, arith}
use Rattle.laws.proofs.Grid.{cell_below}
use Rattle.torus.proofs.Axis.{next_below}
use Rattle.flow.specs.declared.Port.{Port}
use Rattle.flow.specs.declared.Port.TheVariants.{East, South}
use Rattle.place.specs.Place.{Place, W, N, column_of, row_of}
use Rattle.router.specs.Links.{reach}
use Rattle.state.specs.Layout.{register_size}
use Rattle.output.specs.declared.Grid.{Grid}
use Rattle.output.specs.Grid.{torus_of, registers_of, register_place}

module _ (g : Grid) where
  -- where an output reaches
  pub reach_on : (x y : ℕ) (o : Port) → x < g.sx → y < g.sy
      → (column_of (reach (torus_of g) x y o) < g.sx) × (row_of (reach (torus_of g) x y o) < g.sy)
  unfolding reach
  reach_on x y East h k = (next_below g.sx x h, k)
  reach_on x y South h k = (h, next_below g.sy y k)

  -- a register's four words
  place_fits : (at : Place) → column_of at < g.sx → row_of at < g.sy → register_place g.sx at + register_size ≤ registers_of g
  place_fits (W x y) h k = omega (arith, cell_below g.sx g.sy x y h k)
  place_fits (N x y) h k = omega (arith, cell_below g.sx g.sy x y h k)

  pub reach_fits : (x y : ℕ) (o : Port) → x < g.sx → y < g.sy → register_place g.sx (reach (torus_of g) x y o) + register_size ≤ registers_of g
  reach_fits x y o h k = let there = reach_on x y o h k in place_fits (reach (torus_of g) x y o) there.0 there.1
