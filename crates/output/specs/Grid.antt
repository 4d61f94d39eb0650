-- The grid of a torus's routers, the registers that their outputs reach, and room for exits. Only promises of inner functions name
-- these.
use Rattle.std.specs.Prelude.{List, [], ℕ, ◌+◌, ◌*◌, ◌≤◌, ◌<◌, length}
use Rattle.std.proofs.lemmas.List.Edits.{sets}
use Rattle.laws.specs.Grid.{cell_index}
use Rattle.flow.specs.declared.Port.{Port}
use Rattle.flow.specs.Limits.{exit_size}
use Rattle.flow.specs.Plan.{Plan, most_size}
use Rattle.place.specs.Place.{Place, W, N}
use Rattle.router.specs.Links.{reach}
use Rattle.state.specs.Register.{Register}
use Rattle.state.specs.Layout.{register_size, router_size}
use Rattle.state.specs.Inner.{most_routers}
use Rattle.state.specs.Words.{register_words}
use Rattle.output.specs.declared.Grid.{Grid}

-- a torus, as a plan without flows
abbrev pub torus_of : Grid → Plan
torus_of g = record { sx = g.sx; sy = g.sy; flows = [] }

-- column x and row y are on it
pub record OnGrid (g : Grid) (x y : ℕ) : Type 0 where
  pub sx_most : g.sx ≤ most_size
  pub sy_most : g.sy ≤ most_size
  pub column : x < g.sx
  pub row : y < g.sy

-- how many words the registers of all routers are
abbrev pub registers_of : Grid → ℕ
registers_of g = router_size * (g.sx * g.sy)

-- where a register stands among them
abbrev pub register_place : (sx : ℕ) → Place → ℕ
register_place sx (W x y) = router_size * cell_index sx x y
register_place sx (N x y) = router_size * cell_index sx x y + register_size

-- the registers l, after the router in column x and row y has sent r by an output
abbrev pub push : Grid → (x y : ℕ) → Port → Register → List ℕ → List ℕ
push g x y o r l = sets l (register_place g.sx (reach (torus_of g) x y o)) (register_words r)

-- n more exits, after `count`, have their words in the delivery memory
pub record ExitRoom (count n : ℕ) (delivery : List ℕ) : Type 0 where
  pub few : count + n ≤ most_routers
  pub room : exit_size * (count + n) ≤ length delivery
