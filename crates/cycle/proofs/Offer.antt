-- A state with so many packets of a flow waiting: its numbers still fit, and its words are read back. Rests on specs/Offer and the
-- laws of a state's words.
use mathlib.Core.Bool.{true, ◌&&◌}
use mathlib.Core.List.{List, ◌++◌}
use mathlib.Core.Logic.{◌≢◌}
use mathlib.Core.Path.{◌≡◌, refl, sym, ap, ◌∙◌}
use Prim.Native.Nat.{ℕ, ◌≤◌, ◌<◌}
use native.Mathlib.Decide.{ℕ_discrete}
use native.Mathlib.Omega.{arith}
use borrow.Author.Tests.{le-leb}
use lib.Dec.{leb}
use lib.ListN.{length, drop, length-set}
use lib.Seq.{get_or-set_same, get_or-set_other, drop_at}
use Rattle.laws.proofs.Cases.{and_true}
use Rattle.laws.proofs.Stands.{stands_first}
use Rattle.flow.specs.declared.Flow.{Flow}
use Rattle.flow.specs.declared.Offerer.{Offerer}
use Rattle.flow.specs.Plan.{flow_at}
use Rattle.flow.specs.Limits.{most_waiting, offer_number}
use Rattle.flow.proofs.Limits.{offer_passes}
use Rattle.bucket.specs.Regulator.{bucket_fits}
use Rattle.place.specs.Place.{Place, W, N}
use Rattle.state.specs.Register.{Register}
use Rattle.std.specs.Prelude.{Some, None}
use Rattle.state.specs.declared.Tally.{Tally}
use Rattle.state.specs.Layout.{plan_size}
use Rattle.state.specs.State.{State, tally_at, cell_at, fresh_tally}
use Rattle.state.specs.Words.{state_words}
use Rattle.state.specs.Read.{state_of}
use Rattle.state.specs.Forms.{tally_fits, state_number}
use Rattle.state.specs.Outcome.{over}
use Rattle.state.proofs.Words.{length_words}
use Rattle.state.proofs.Read.{Sized, read_back}
use Rattle.state.proofs.View.{view_sized}
use Rattle.state.proofs.Holds.{hold_over}
use Rattle.state.proofs.Forms.{state_facts}
use Rattle.state.proofs.Again.{state_again}
use Rattle.state.proofs.Formed.{register_ok, StateOk, words_form, state_fits}
use Rattle.cycle.specs.Offer.{with_waiting, offer_state}

-- a state whose numbers fit, with a tally for each flow and a cell for each router
pub record Sound (s : State) : Type 0 where
  pub fits : StateOk s
  pub sized : Sized s

-- words that form a state have such a one, and hold it
module _ (w : List ℕ) (formed : state_number w ≡ 0) where
  pub words_sound : Sound (state_of w)
  words_sound = record { fits = state_fits w formed; sized = view_sized w }

  pub words_again : w ≡ over (state_words (state_of w)) w
  words_again = hold_over (state_of w) w w (state_again w (state_facts w formed))

-- its words, written over the front of a memory, form a state and are read back
module _ (s : State) (sound : Sound s) (w : List ℕ) where
  pub over_forms : state_number (over (state_words s) w) ≡ 0
  over_forms = words_form s sound.fits _ (stands_first 0 (state_words s) _)

  pub over_read : state_of (over (state_words s) w) ≡ s
  over_read = read_back s _ sound.sized

-- another state of the same plan is written over them
pub over_again : (s t : State) (w : List ℕ) → t.plan ≡ s.plan → over (state_words t) (over (state_words s) w) ≡ over (state_words t) w
over_again s t w e =
    let long : length (state_words s) ≡ length (state_words t) = length_words s ∙ ap plan_size (sym e) ∙ sym (length_words t) in
    ap (λ rest. state_words t ++ rest) (drop_at (state_words s) _ _ long ∙ ap (λ n. drop n w) long)

module _ (s : State) (f n : ℕ) (below : f < length s.tallies) where
  abbrev now : State
  now = with_waiting s f n

  pub tally_here : tally_at now f ≡ record { bucket = (tally_at s f).bucket; entered = (tally_at s f).entered; waiting = n }
  tally_here = get_or-set_same s.tallies f _ (fresh_tally 0) below

  pub tally_other : (g : ℕ) → g ≢ f → tally_at now g ≡ tally_at s g
  tally_other g e = get_or-set_other s.tallies f g _ (fresh_tally 0) e

  entered_same : (g : ℕ) → (tally_at now g).entered ≡ (tally_at s g).entered
  entered_same g =
      elim (ℕ_discrete g f) [
        | yes e ↦ rw e (ap (λ (t : Tally). t.entered) tally_here)
        | no e ↦ ap (λ (t : Tally). t.entered) (tally_other g e)
      ]

  register_same : (at : Place) (r : Register) → register_ok now at r ≡ register_ok s at r
  register_same at None = refl
  register_same at (Some packet) = rw (entered_same packet.flow)

  tally_fits_lem : n ≤ most_waiting → (g : ℕ) → tally_fits s.clock (flow_at s.plan g) (tally_at s g) ≡ true
      → tally_fits s.clock (flow_at s.plan g) (tally_at now g) ≡ true
  unfolding tally_fits
  tally_fits_lem most g e =
      elim (ℕ_discrete g f) [
        | yes same ↦
            let φ : Flow = flow_at s.plan f in
            let t : Tally = tally_at s f in
            let old = and_true (bucket_fits φ.burst φ.period t.bucket && leb t.waiting most_waiting) (leb t.entered s.clock) (rw same at e) in
            let bucket = (and_true (bucket_fits φ.burst φ.period t.bucket) (leb t.waiting most_waiting) old.0).0 in
            rw (same, tally_here, bucket, le-leb n most_waiting most, old.1)
        | no other ↦ rw (tally_other g other) e
      ]

  pub waiting_sound : Sound s → n ≤ most_waiting → Sound now
  waiting_sound sound most =
      record {
        fits = record {
          plan_ok = sound.fits.plan_ok;
          tally_ok = λ g l. tally_fits_lem most g (sound.fits.tally_ok g l);
          west_ok = λ x y l m. register_same (W x y) (cell_at s x y).west ∙ sound.fits.west_ok x y l m;
          north_ok = λ x y l m. register_same (N x y) (cell_at s x y).north ∙ sound.fits.north_ok x y l m;
        };
        sized = record { tallies_all = length-set s.tallies f _ ∙ sound.sized.tallies_all; cells_all = sound.sized.cells_all };
      }

-- an offer that isn't refused
pub offer_sound : (who : Offerer) (s : State) (f : ℕ) → Sound s → offer_number who s.plan f (tally_at s f).waiting ≡ 0 → Sound (offer_state s f)
unfolding offer_state
offer_sound who s f sound e =
    let passes = offer_passes who s.plan f _ e in
    waiting_sound s f _ (omega (arith, sound.sized.tallies_all, passes.0)) sound (omega (arith, passes.1))
