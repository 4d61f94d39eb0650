-- The entrants of a state's clients, in the order of its routers. Rests on Entrant and the facts of a state.
use mathlib.Core.Bool.{true}
use mathlib.Core.List.{List}
use mathlib.Core.Option.{Option, some-injective, some-ne-none}
use mathlib.Core.Path.{◌≡◌, ◌∙◌}
use Prim.Native.Nat.{ℕ, ◌+◌, ◌*◌, ◌≤◌, ◌<◌}
use native.Mathlib.Omega.{arith}
use lib.ListN.{length, get_or, set, replicate, get_or-replicate, length-replicate}
use Rattle.std.specs.Prelude as Prelude
use Rattle.std.specs.Prelude.{Some, None, IfSome}
use Rattle.std.specs.Option.{option_or}
use Rattle.laws.specs.Grid.{cell_index}
use Rattle.laws.proofs.Grid.{cell_below}
use Rattle.flow.specs.declared.Flow.{Flow}
use Rattle.flow.specs.Plan.{flow_at}
use Rattle.router.specs.Rule.{ready, entrant_below, entrant, is_flow}
use Rattle.router.specs.Rule as Rule
use Rattle.router.proofs.Entrant.{Found, no_entrant, has_entrant, found}
use Rattle.state.specs.Read.{sx_in, sy_in, count_in, plan_in, state_of}
use Rattle.state.specs.Facts.{StateFacts}
use Rattle.state.proofs.View.{view_count}
use Rattle.cycle.specs.Seen.{view, enters}
use Rattle.cycle.proofs.Facts.{flow_ok}
use Rattle.entry.specs.Entrants.{entrant_in, Entrants}
use Rattle.entry.proofs.Entrant.{xs_of, ys_of, entrants_none, entrants_marked}

-- no entrants yet, in room for n of them
pub no_entrants : (w : List ℕ) (n : ℕ) → sx_in w * sy_in w ≤ n → Entrants (state_of w) 0 (replicate n None)
unfolding state_of plan_in
no_entrants w n h = entrants_none (state_of w) (replicate n None) (rw length-replicate h) (λ i k. get_or-replicate n i None None (omega arith))

module _ (w : List ℕ) (s : StateFacts w) where
  -- a router has a place among the entrants
  pub entrant_fits : (n : ℕ) (l : List (Prelude.Option ℕ)) → Entrants (state_of w) n l → (x y : ℕ) → x < sx_in w → y < sy_in w → cell_index (sx_in w) x y < length l
  unfolding state_of plan_in
  entrant_fits n l e x y h k =
      let room = e.room in
      omega (arith, cell_below (sx_in w) (sy_in w) x y h k)

  pub entrant_found : (n : ℕ) (l : List (Prelude.Option ℕ)) → Entrants (state_of w) n l → (x y : ℕ) → x < sx_in w → y < sy_in w
      → entrant_in (get_or l (cell_index (sx_in w) x y) None) ≡ entrant_below (state_of w).plan (view (state_of w)) x y n
  unfolding state_of plan_in
  entrant_found n l e x y h k = e.at x y h k

  -- after all flows: who enters there
  pub entrant_all : (l : List (Prelude.Option ℕ)) → Entrants (state_of w) (count_in w) l → (x y : ℕ) → x < sx_in w → y < sy_in w
      → entrant_in (get_or l (cell_index (sx_in w) x y) None) ≡ entrant (state_of w).plan (view (state_of w)) x y
  unfolding state_of
  entrant_all l e x y h k = entrant_found (count_in w) l e x y h k ∙ rw (view_count w)

  -- a flow of the plan, where there is one
  pub entrant_most : (x y : ℕ) (who : Prelude.Option ℕ) → entrant_in who ≡ entrant (state_of w).plan (view (state_of w)) x y
      → IfSome who (λ f. f < count_in w)
  unfolding entrant_in state_of
  entrant_most x y who e = most (found (state_of w).plan (view (state_of w)) x y) who e
    where
      most : {at : Option ℕ} → Found (state_of w).plan (view (state_of w)) x y at → (who : Prelude.Option ℕ) → entrant_in who ≡ at
          → IfSome who (λ f. f < count_in w)
      most found' None e = tt
      most (no_entrant unready) (Some f) e = absurd (some-ne-none f e)
      most (has_entrant g h) (Some f) e = rw (← (view_count w), some-injective f g e) h.below

  -- and who stands at a flow's client says whether the flow enters
  pub entered_found : (l : List (Prelude.Option ℕ)) → Entrants (state_of w) (count_in w) l → (f : ℕ) → f < count_in w
      → is_flow f (entrant_in (get_or l (cell_index (sx_in w) (xs_of (state_of w) f) (ys_of (state_of w) f)) None)) ≡ enters (state_of w) f
  unfolding enters Rule.enters
  entered_found l e f h = rw (entrant_all l e _ _ (flow_ok w s f h).xs_on (flow_ok w s f h).ys_on)

  -- the place of flow f's client among the entrants
  module _ (f : ℕ) (below : f < count_in w) (l : List (Prelude.Option ℕ)) (e : Entrants (state_of w) f l)
      (φ : Flow) (flow : φ ≡ flow_at (state_of w).plan f) (i : ℕ) (index : i ≡ cell_index (sx_in w) φ.xs φ.ys) where
    client : i ≡ cell_index (sx_in w) (xs_of (state_of w) f) (ys_of (state_of w) f)
    client = index ∙ rw flow

    pub client_fits : i < length l
    client_fits = rw client (entrant_fits f l e _ _ (flow_ok w s f below).xs_on (flow_ok w s f below).ys_on)

    -- where it is ready, it is that client's entrant, unless there is one
    pub client_marked : ready (state_of w).plan (view (state_of w)) f ≡ true → Entrants (state_of w) (f + 1) (set l i (option_or (get_or l i None) (Some f)))
    unfolding state_of plan_in
    client_marked yes' = rw client (entrants_marked (state_of w) f l (flow_ok w s f below).xs_on (flow_ok w s f below).ys_on e yes')
