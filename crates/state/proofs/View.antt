-- The state that words have, entry by entry. Rests on specs/Read.
use mathlib.Core.List.{List}
use mathlib.Core.Path.{◌≡◌, refl, sym, ◌∙◌}
use Prim.Native.Nat.{ℕ, ◌<◌}
use lib.ListN.{length}
use Rattle.laws.proofs.Bounded.{length_tabulate, get_d_tabulate}
use Rattle.laws.proofs.Grid.{length_grid, get_d_grid}
use Rattle.flow.specs.Plan.{flow_at, no_flow}
use Rattle.state.specs.Layout.{flow_place, plan_size}
use Rattle.state.specs.State.{tally_at, cell_at, fresh_tally, empty_cell}
use Rattle.state.specs.Read.{sx_in, sy_in, count_in, flow_in, tally_in, cell_in, router_in, plan_in, state_of}
use Rattle.state.specs.Forms.{size_in}
use Rattle.state.proofs.Read.{Sized}

module _ (w : List ℕ) where
  pub view_plan : (state_of w).plan ≡ plan_in w
  unfolding state_of
  view_plan = refl

  pub view_count : length (plan_in w).flows ≡ count_in w
  unfolding plan_in
  view_count = length_tabulate (count_in w) (λ f. flow_in w (flow_place f))

  -- the flows of the state's plan
  pub counted : length (state_of w).plan.flows ≡ count_in w
  unfolding state_of
  counted = view_count

  -- the size that the header asks for is that of its plan
  pub view_size : plan_size (plan_in w) ≡ size_in w
  unfolding plan_in
  view_size = rw (length_tabulate (count_in w) (λ f. flow_in w (flow_place f)))

  pub view_flow : (f : ℕ) → f < count_in w → flow_at (plan_in w) f ≡ flow_in w (flow_place f)
  unfolding plan_in
  view_flow f h = get_d_tabulate (count_in w) (λ f. flow_in w (flow_place f)) f no_flow h

  pub flow_seen : (f : ℕ) → f < count_in w → flow_at (state_of w).plan f ≡ flow_in w (flow_place f)
  unfolding state_of
  flow_seen f h = view_flow f h

  pub view_tally : (f : ℕ) → f < count_in w → tally_at (state_of w) f ≡ tally_in w (flow_place f)
  unfolding state_of
  view_tally f h = get_d_tabulate (count_in w) (λ f. tally_in w (flow_place f)) f (fresh_tally 0) h

  pub view_cell : (x y : ℕ) → x < sx_in w → y < sy_in w → cell_at (state_of w) x y ≡ cell_in w (router_in w x y)
  unfolding state_of plan_in
  view_cell x y h k = get_d_grid (sx_in w) (sy_in w) (λ x y. cell_in w (router_in w x y)) empty_cell x y h k

  pub view_sized : Sized (state_of w)
  unfolding state_of plan_in
  view_sized =
      record {
        tallies_all = length_tabulate (count_in w) (λ f. tally_in w (flow_place f)) ∙ sym view_count;
        cells_all = length_grid (sx_in w) (sy_in w) (λ x y. cell_in w (router_in w x y));
      }
