-- What the walk over the routers leaves. Only promises of inner functions name these; proofs/ ties them to the definitions of Step.
use Rattle.std.specs.Prelude.{Option, cond, List, ◌≡◌, ℕ}
use Rattle.laws.specs.Count.{join_below}
use Rattle.laws.specs.Turns.{turns}
use Rattle.flow.specs.declared.Port.TheVariants.{East, South}
use Rattle.router.specs.Rule.{via}
use Rattle.router.specs.Delivery.{Delivery}
use Rattle.state.specs.Read.{sx_in, sy_in, count_in, state_of}
use Rattle.cycle.specs.Step.{carried, delivered}
use Rattle.entry.specs.Entrants.{AllEntered}
use Rattle.output.specs.declared.Grid.{Grid}
use Rattle.output.specs.Grid.{registers_of, push}
use Rattle.routing.specs.Sent.{is_idle}

-- the grid of a state's routers
abbrev pub grid_in : (w : List ℕ) → Grid
grid_in w = record { sx = sx_in w; sy = sy_in w; flows = count_in w }

-- how many words its routers' registers are
abbrev pub registers_in : (w : List ℕ) → ℕ
registers_in w = registers_of (grid_in w)

-- the registers l, after all that the router in column x and row y of the state with words w has sent
unfoldable pub pushed : (w : List ℕ) → (x y : ℕ) → List ℕ → List ℕ
pushed w x y l =
    let s = state_of w in
    push (grid_in w) x y South (carried s x y (via South)) (push (grid_in w) x y East (carried s x y (via East)) l)

-- an idle router writes nothing: the registers that it would empty are empty
unfoldable pub passed : (w : List ℕ) → (x y : ℕ) → List ℕ → List ℕ
passed w x y l = cond (is_idle (state_of w) x y) l (pushed w x y l)

-- after a row's routers, and after all
unfoldable pub pushed_row : (w : List ℕ) → (y : ℕ) → List ℕ → List ℕ
pushed_row w y l = turns (sx_in w) (λ x. passed w x y) l

unfoldable pub pushed_all : (w : List ℕ) → List ℕ → List ℕ
pushed_all w l = turns (sy_in w) (pushed_row w) l

-- what the routers of row y deliver
unfoldable pub row_delivers : (w : List ℕ) → (y : ℕ) → List Delivery
row_delivers w y = join_below (sx_in w) (λ x. delivered (state_of w) x y)

-- a walk over all routers of the state with words w, with their grid and who enters at each
pub record Walking (w : List ℕ) (g : Grid) (entrants : List (Option ℕ)) : Type 0 where
  pub entered : AllEntered w entrants
  pub grid : g ≡ grid_in w
