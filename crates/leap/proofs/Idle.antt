-- The law of the cycle: k cycles in which nothing moves and nobody enters are the leap of k, and deliver nothing. Rests on the laws of the
-- bucket, of who enters and of the links.
use mathlib.Core.Bool.{true, false, false≢true}
use mathlib.Core.List.{List, []}
use mathlib.Core.Logic.{inl, inr}
use mathlib.Core.Option.{Option, none}
use mathlib.Core.Path.{◌≡◌, refl, sym, ap, ◌∙◌}
use Prim.Native.Nat.{ℕ, zero, suc, ◌+◌, ◌≤◌, ◌<◌}
use native.Mathlib.Nat.{add-zero, sub-zero, add_assoc}
use native.Mathlib.Numerals.{add-one}
use native.Mathlib.Omega.{arith}
use borrow.Author.Tests.{le-ltb}
use lib.Dec.{ltb}
use lib.ListN.{length}
use Rattle.laws.specs.Bounded.{tabulate}
use Rattle.laws.specs.Count.{join_below}
use Rattle.laws.specs.Grid.{grid}
use Rattle.laws.specs.Turns.{turns}
use Rattle.laws.proofs.Cases.{never, and_true}
use Rattle.laws.proofs.Bounded.{get_d_tabulate, is_tabulate}
use Rattle.laws.proofs.Grid.{is_grid, tabulate_same}
use Rattle.flow.specs.declared.Flow.{Flow}
use Rattle.flow.specs.Plan.{Plan, flow_at}
use Rattle.bucket.specs.Regulator.{after_count, after_cycle}
use Rattle.bucket.proofs.Passed.{cycles_more, cycles_none, none_yet}
use Rattle.place.specs.Place.{Place, W, N, column_of, row_of}
use Rattle.router.specs.Rule.{Seen, Way, via, leave, taken_by, takes, ready, entrant, is_flow}
use Rattle.router.specs.Rule as Rule
use Rattle.router.proofs.Links.{feeder_on}
use Rattle.router.proofs.Entrant.{Found, no_entrant, has_entrant, found, ready_parts}
use Rattle.std.specs.Prelude.{None}
use Rattle.state.specs.declared.Tally.{Tally}
use Rattle.state.specs.State.{State, tally_at, fresh_tally, empty_cell}
use Rattle.state.specs.Forms.{tally_fits}
use Rattle.cycle.specs.Seen.{view, enters}
use Rattle.cycle.specs.Step.{sends_by, sent_by, carried, next_register, next_cell, next_tally, step_state, leaving, delivered, deliveries}
use Rattle.cycle.proofs.Offer.{Sound}
use Rattle.leap.specs.Leap.{passed_at, leap_state, Vacant, StaysOut, AllStayOut, Idle}

-- nothing in flight, and no flow is ready
module _ (s : State) (vacant : Vacant s) (unready : (f : ℕ) → f < length s.plan.flows → ready s.plan (view s) f ≡ false) where
  abbrev p : Plan
  p = s.plan

  nobody : (x y : ℕ) → entrant p (view s) x y ≡ none
  nobody x y = of (found p (view s) x y)
    where
      of : {who : Option ℕ} → Found p (view s) x y who → who ≡ none
      of (no_entrant low) = refl
      of (has_entrant f h) = absurd (false≢true (sym (unready f h.below) ∙ h.is_ready))

  none_enters : (f : ℕ) → enters s f ≡ false
  unfolding enters Rule.enters
  none_enters f = ap (is_flow f) (nobody _ _)

  -- so no way out carries anything
  carries_none : (x y : ℕ) → x < p.sx → y < p.sy → (o : Way) → carried s x y o ≡ None
  unfolding carried sent_by takes sends_by
  carries_none x y l m o = rw (vacant x y l m, nobody x y)

  register_none : (at : Place) → column_of at < p.sx → row_of at < p.sy → next_register s at ≡ None
  unfolding next_register
  register_none at l m = let on = feeder_on p at l m in carries_none _ _ on.0 on.1 _

  join_none : {A : Type 0} (n : ℕ) (g : ℕ → List A) → ((i : ℕ) → i < n → g i ≡ []) → join_below n g ≡ []
  join_none zero g h = refl
  join_none (suc n) g h = rw (join_none n g (λ i l. h i (omega arith)), h n (omega arith))

  pub delivers_none : deliveries s ≡ []
  unfolding deliveries delivered
  delivers_none = join_none p.sy _ (λ y m. join_none p.sx _ (λ x l. ap (leaving s.clock) (carries_none x y l m leave)))

  tally_runs : (f : ℕ) → next_tally s f ≡ record {
    bucket = after_count (flow_at p f).burst (flow_at p f).period (tally_at s f).bucket;
    entered = (tally_at s f).entered;
    waiting = (tally_at s f).waiting;
  }
  unfolding next_tally after_cycle
  tally_runs f = rw (none_enters f) (rw (add-zero, sub-zero))

-- a shorter leap is idle too
out_less : (k n : ℕ) (f : Flow) (t : Tally) → n ≤ k → StaysOut k f t → StaysOut n f t
out_less k n f t l (inl none') = inl none'
out_less k n f t l (inr late) = inr (late.0, omega (arith, late.1))

pub all_less : (k n : ℕ) (s : State) (m : ℕ) → n ≤ k → AllStayOut k s m → AllStayOut n s m
all_less k n s m l all f h = out_less k n (flow_at s.plan f) (tally_at s f) l (all f h)

pub idle_less : (k n : ℕ) (s : State) → n ≤ k → Idle k s → Idle n s
idle_less k n s l idle = record { vacant = idle.vacant; out = all_less k n s (length s.plan.flows) l idle.out }

module _ (s : State) (sound : Sound s) where
  leap_tally : (k f : ℕ) → f < length s.plan.flows → tally_at (leap_state k s) f ≡ passed_at k s f
  unfolding leap_state
  leap_tally k f l = get_d_tabulate (length s.plan.flows) (passed_at k s) f (fresh_tally 0) l

  -- no cycle
  leap_none : leap_state 0 s ≡ s
  unfolding leap_state tally_fits
  leap_none = λ j. record { plan = s.plan; clock = add-zero s.clock j; tallies = same j; cells = s.cells }
    where
      fits : (f : ℕ) → f < length s.plan.flows → passed_at 0 s f ≡ tally_at s f
      fits f l =
          let φ = sound.fits.plan_ok.flow_ok f l in
          let bucket = (and_true _ _ (and_true _ _ (sound.fits.tally_ok f l)).0).0 in
          rw (cycles_none (flow_at s.plan f).burst (flow_at s.plan f).period φ.period_least (tally_at s f).bucket bucket)

      same : tabulate (length s.plan.flows) (passed_at 0 s) ≡ s.tallies
      same =
          sym (is_tabulate s.tallies (length s.plan.flows) (passed_at 0 s) (fresh_tally 0) sound.sized.tallies_all (λ f l. sym (fits f l)))

  -- no flow is ready within the leap
  unready : (k : ℕ) → Idle (k + 1) s → (f : ℕ) → f < length s.plan.flows → ready s.plan (view (leap_state k s)) f ≡ false
  unready k idle f l =
      never _ (λ r. let parts = ready_parts s.plan (view (leap_state k s)) f r in of (idle.out f l) parts.waits parts.token)
    where
      φ : Flow
      φ = flow_at s.plan f

      t : Tally
      t = tally_at s f

      of : StaysOut (k + 1) φ t → ltb 0 (tally_at (leap_state k s) f).waiting ≡ true → ltb 0 (tally_at (leap_state k s) f).bucket.tokens ≡ true → ⊥
      of (inl none') w t' =
          let e = ap (λ (u : Tally). u.waiting) (leap_tally k f l) ∙ none' in
          false≢true (sym (le-ltb 0 (tally_at (leap_state k s) f).waiting (omega arith)) ∙ w)
      of (inr late) w t' =
          let e = ap (λ (u : Tally). u.bucket.tokens) (leap_tally k f l)
          ∙ none_yet φ.burst φ.period k t.bucket (sound.fits.plan_ok.flow_ok f l).burst_least late.0 (omega (arith, late.1)) in
          false≢true (sym (le-ltb 0 (tally_at (leap_state k s) f).bucket.tokens (omega arith)) ∙ t')

  vacant_later : (k : ℕ) → Idle (k + 1) s → Vacant (leap_state k s)
  unfolding leap_state
  vacant_later k idle = idle.vacant

  -- one cycle more
  next_tally_lem : (k : ℕ) → Idle (k + 1) s → (f : ℕ) → f < length s.plan.flows → next_tally (leap_state k s) f ≡ passed_at (k + 1) s f
  unfolding leap_state
  next_tally_lem k idle f l =
      let φ = flow_at s.plan f in
      let least = (sound.fits.plan_ok.flow_ok f l).period_least in
      tally_runs (leap_state k s) (vacant_later k idle) (unready k idle) f
      ∙ rw (leap_tally k f l, cycles_more φ.burst φ.period least (tally_at s f).bucket k)

  next_cell_lem : (k : ℕ) → Idle (k + 1) s → (x y : ℕ) → x < s.plan.sx → y < s.plan.sy → next_cell (leap_state k s) x y ≡ empty_cell
  unfolding leap_state
  next_cell_lem k idle x y l m = λ j. record {
    west = register_none (leap_state k s) (vacant_later k idle) (unready k idle) (W x y) l m j;
    north = register_none (leap_state k s) (vacant_later k idle) (unready k idle) (N x y) l m j;
  }

  leap_more : (k : ℕ) → Idle (k + 1) s → step_state (leap_state k s) ≡ leap_state (k + 1) s
  unfolding step_state leap_state
  leap_more k idle = λ j. record { plan = s.plan; clock = add_assoc s.clock k 1 j; tallies = tallies j; cells = cells j }
    where
      tallies : tabulate (length s.plan.flows) (next_tally (leap_state k s)) ≡ tabulate (length s.plan.flows) (passed_at (k + 1) s)
      tallies = tabulate_same _ _ _ (next_tally_lem k idle)

      cells : grid s.plan.sx s.plan.sy (next_cell (leap_state k s)) ≡ s.cells
      cells =
          sym (is_grid s.cells s.plan.sx s.plan.sy (next_cell (leap_state k s)) empty_cell sound.sized.cells_all
          (λ x y l m. idle.vacant x y l m ∙ sym (next_cell_lem k idle x y l m)))

  -- so many cycles, one after the other
  pub leap_law : (k : ℕ) → Idle k s → turns k (λ i. step_state) s ≡ leap_state k s
  unfolding turns
  leap_law zero idle = sym leap_none
  leap_law (suc k) idle =
      let more : Idle (k + 1) s = rw (← (add-one k)) at idle in
      ap step_state (leap_law k (idle_less (suc k) k s (omega arith) idle)) ∙ leap_more k more ∙ rw add-one

  -- and they deliver nothing
  pub leap_delivers : (k : ℕ) → Idle (k + 1) s → deliveries (leap_state k s) ≡ []
  unfolding leap_state
  leap_delivers k idle = delivers_none (leap_state k s) (vacant_later k idle) (unready k idle)
