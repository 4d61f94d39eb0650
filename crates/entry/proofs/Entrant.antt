-- The walk over the flows finds who enters, turn by turn. Rests on specs/Entrants and the rule's laws of who enters.
use mathlib.Core.Bool.{Bool, true, false, cond, ◌&&◌, and-false, false≢true}
use mathlib.Core.List.{List}
use mathlib.Core.Logic.{◌⊎◌, inl, inr}
use mathlib.Core.Option.{Option, none, some}
use mathlib.Core.Path.{◌≡◌, refl, sym, ap, ◌∙◌}
use Prim.Native.Nat.{ℕ, ◌+◌, ◌*◌, ◌≤◌, ◌<◌}
use native.Mathlib.Numerals.{add-one}
use native.Mathlib.Omega.{arith}
use borrow.Author.Tests.{ltb-true}
use lib.Dec.{eqb, ltb}
use lib.ListN.{length, get_or, set, length-set}
use lib.Seq.{get_or-set_same, get_or-set_other}
use Rattle.std.specs.Prelude as Prelude
use Rattle.std.specs.Prelude.{Some, None}
use Rattle.std.specs.Option.{option_eq, option_or}
use Rattle.laws.specs.Bounded.{first_of, first_below}
use Rattle.laws.specs.Grid.{cell_index}
use Rattle.laws.proofs.Cases.{test, eqb_both, both_eqb}
use Rattle.laws.proofs.Grid.{cell_below, cell_one}
use Rattle.flow.specs.Plan.{flow_at}
use Rattle.router.specs.Rule.{ready, is_client, entrant_below, is_flow}
use Rattle.router.proofs.Entrant.{entering, ready_parts}
use Rattle.state.specs.State.{State, tally_at}
use Rattle.cycle.specs.Seen.{view, enters}
use Rattle.cycle.specs.Step.{next_tally}
use Rattle.entry.specs.Entrants.{port_open, entrant_in, Entrants, tally_after}

no_one : (who : Prelude.Option ℕ) → who ≡ None → entrant_in who ≡ none
unfolding entrant_in
no_one who e = rw e

-- who stands there, or else the later one
first_stands : (who : Prelude.Option ℕ) (f : ℕ) → first_of (entrant_in who) (some f) ≡ entrant_in (option_or who (Some f))
unfolding entrant_in
first_stands None f = refl
first_stands (Some g) f = refl

-- flow f is the one who stands there
pub is_who : (f : ℕ) (who : Prelude.Option ℕ) → option_eq eqb who (Some f) ≡ is_flow f (entrant_in who)
unfolding entrant_in
is_who f None = refl
is_who f (Some g) = refl

first_alone : (o : Option ℕ) → first_of o none ≡ o
first_alone none = refl
first_alone (some f) = refl

module _ (s : State) where
  abbrev pub xs_of : ℕ → ℕ
  xs_of f = (flow_at s.plan f).xs

  abbrev pub ys_of : ℕ → ℕ
  ys_of f = (flow_at s.plan f).ys

  -- the lowest flow below n that is ready at the client in column x and row y, and whether flow f is
  abbrev lowest : (x y n : ℕ) → Option ℕ
  lowest x y n = entrant_below s.plan (view s) x y n

  abbrev ready_at : (x y f : ℕ) → Bool
  ready_at x y f = is_client s.plan x y f && ready s.plan (view s) f

  -- one flow more
  turn : (x y f : ℕ) → lowest x y (f + 1) ≡ first_of (lowest x y f) (cond (ready_at x y f) (some f) none)
  unfolding first_below
  turn x y f = rw add-one

  stays : (x y f : ℕ) → ready_at x y f ≡ false → lowest x y f ≡ lowest x y (f + 1)
  stays x y f no' = sym (turn x y f ∙ rw no' (first_alone (lowest x y f)))

  -- before the first flow there is no entrant
  pub entrants_none : (l : List (Prelude.Option ℕ)) → s.plan.sx * s.plan.sy ≤ length l → ((i : ℕ) → i < s.plan.sx * s.plan.sy → get_or l i None ≡ None) → Entrants s 0 l
  unfolding first_below
  entrants_none l long zeros =
      record { room = long; at = λ x y h k. no_one _ (zeros (cell_index s.plan.sx x y) (cell_below s.plan.sx s.plan.sy x y h k)) }

  -- a flow that isn't ready leaves the entrants
  pub entrants_unready : (f : ℕ) (l : List (Prelude.Option ℕ)) → ready s.plan (view s) f ≡ false → Entrants s f l → Entrants s (f + 1) l
  entrants_unready f l no' old =
      record { room = old.room; at = λ x y h k. old.at x y h k ∙ stays x y f (rw (no', and-false)) }

  module _ (f : ℕ) (l : List (Prelude.Option ℕ)) (hx : xs_of f < s.plan.sx) (hy : ys_of f < s.plan.sy) (old : Entrants s f l) where
    -- the place of its client, and who stands there
    abbrev at_client : ℕ
    at_client = cell_index s.plan.sx (xs_of f) (ys_of f)

    abbrev there : Prelude.Option ℕ
    there = get_or l at_client None

    -- one that is ready is its client's entrant, unless that has one already
    pub entrants_marked : ready s.plan (view s) f ≡ true → Entrants s (f + 1) (set l at_client (option_or there (Some f)))
    entrants_marked yes' = record { room = rw length-set old.room; at = λ x y h k. mark x y h k (test (is_client s.plan x y f)) }
      where
        here : ready_at (xs_of f) (ys_of f) f ≡ true
        here = rw (both_eqb (xs_of f) (xs_of f) (ys_of f) (ys_of f) refl refl, yes')

        own : entrant_in (option_or there (Some f)) ≡ lowest (xs_of f) (ys_of f) (f + 1)
        own = sym (turn (xs_of f) (ys_of f) f ∙ rw (← (old.at (xs_of f) (ys_of f) hx hy), here) (first_stands there f))

        mark : (x y : ℕ) → x < s.plan.sx → y < s.plan.sy → (is_client s.plan x y f ≡ true) ⊎ (is_client s.plan x y f ≡ false)
            → entrant_in (get_or (set l at_client (option_or there (Some f))) (cell_index s.plan.sx x y) None) ≡ lowest x y (f + 1)
        mark x y h k (inl here) =
            let e = eqb_both x (xs_of f) y (ys_of f) here in
            let room = old.room in
            let below = cell_below s.plan.sx s.plan.sy (xs_of f) (ys_of f) hx hy in
            rw (e.0, e.1, get_or-set_same l at_client (option_or there (Some f)) None (omega arith)) own
        mark x y h k (inr away) =
            ap entrant_in (get_or-set_other l _ _ (option_or there (Some f)) None (λ e. other (cell_one s.plan.sx x y (xs_of f) (ys_of f) h hx e)))
            ∙ old.at x y h k
            ∙ stays x y f (rw away)
          where
            other : (x ≡ xs_of f) × (y ≡ ys_of f) → ⊥
            other e = false≢true (sym away ∙ both_eqb x (xs_of f) y (ys_of f) e.0 e.1)

  -- who enters has a token and a waiting packet
  pub enters_has : (f : ℕ) → enters s f ≡ true → (1 ≤ (tally_at s f).bucket.tokens) × (1 ≤ (tally_at s f).waiting)
  unfolding enters
  enters_has f yes' =
      let r = ready_parts s.plan (view s) f (entering s.plan (view s) f yes').is_ready in
      (ltb-true 0 _ r.token, ltb-true 0 _ r.waits)

  -- what the rule asks of it
  pub ready_is : (f : ℕ) → ready s.plan (view s) f
      ≡ ltb 0 (tally_at s f).waiting && ltb 0 (tally_at s f).bucket.tokens && port_open s (flow_at s.plan f)
  unfolding ready port_open
  ready_is f = refl

  pub next_tally_lem : (f : ℕ) → next_tally s f ≡ tally_after (flow_at s.plan f) (tally_at s f) (enters s f)
  unfolding next_tally tally_after
  next_tally_lem f = refl
