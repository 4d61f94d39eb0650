-- The routers that a walk visits are on its grid, and who enters at each stands among its entrants. Rests on the facts of a state and
-- on entry's clients.
use Rattle.std.proofs.Common.{◌≡◌, List, ℕ, ◌<◌, length, get_or, None}
use Rattle.std.specs.Prelude.{Option}
use Rattle.laws.specs.Grid.{cell_index}
use Rattle.router.specs.Rule.{entrant}
use Rattle.state.specs.Read.{sx_in, sy_in, state_of}
use Rattle.cycle.specs.Seen.{view}
use Rattle.entry.specs.Entrants.{entrant_in}
use Rattle.entry.proofs.Clients.{entrant_fits, entrant_all}
use Rattle.output.specs.declared.Grid.{Grid}
use Rattle.output.specs.Grid.{OnGrid}
use Rattle.routing.specs.Walk.{Walking}

module _ {w : List ℕ} {g : Grid} {entrants : List (Option ℕ)} (walk : Walking w g entrants) (x y : ℕ) (h : x < sx_in w) (k : y < sy_in w) where
  pub on_grid : OnGrid g x y
  on_grid =
      let sizes = walk.entered.facts.header in
      rw walk.grid (record { sx_most = sizes.sx_ok.most; sy_most = sizes.sy_ok.most; column = h; row = k })

  pub entrant_there : cell_index g.sx x y < length entrants
  entrant_there = rw walk.grid (entrant_fits w walk.entered.facts _ entrants walk.entered.all_entrants x y h k)

  pub entrant_is : entrant_in (get_or entrants (cell_index g.sx x y) None) ≡ entrant (state_of w).plan (view (state_of w)) x y
  entrant_is = rw walk.grid (entrant_all w walk.entered.facts entrants walk.entered.all_entrants x y h k)
