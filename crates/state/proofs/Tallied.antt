-- The words that a walk over the flows leaves hold the state, with the next tallies of the flows passed, whatever these are. Rests on
-- the laws of a state's words.
use mathlib.Core.Bool.{cond}
use mathlib.Core.List.{List}
use mathlib.Core.Logic.{◌≢◌}
use mathlib.Core.Path.{◌≡◌, refl, sym, ◌∙◌}
use Prim.Native.Nat.{ℕ, zero, suc, ◌+◌, ◌≤◌, ◌<◌}
use native.Mathlib.Decide.{dec_lt, ℕ_discrete}
use native.Mathlib.Omega.{arith}
use borrow.Author.Tests.{lt-ltb, le-ltb}
use lib.Dec.{ltb}
use lib.ListN.{drop}
use lib.Seq.{sets}
use Rattle.laws.specs.Turns.{turns}
use Rattle.laws.proofs.Turns.{turns_none, turns_more}
use Rattle.flow.specs.declared.Flow.{Flow}
use Rattle.flow.specs.Plan.{flow_at}
use Rattle.state.specs.declared.Tally.{Tally}
use Rattle.state.specs.Layout.{flow_place, number_size, plan_size}
use Rattle.state.specs.State.{tally_at, cell_at}
use Rattle.state.specs.Words.{tally_words}
use Rattle.state.specs.Read.{count_in, flow_in, tally_in, state_of}
use Rattle.state.specs.Facts.{StateFacts}
use Rattle.state.specs.Tallied.{tallied, Retallied}
use Rattle.state.proofs.View.{counted}
use Rattle.state.proofs.Read.{flow_read, tally_read}
use Rattle.state.proofs.Holds.{Holds, hold_same, tally_written}
use Rattle.state.proofs.Again.{state_again}

module _ (w : List ℕ) (s : StateFacts w) (next : ℕ → Tally) where
  -- the tallies after n flows
  abbrev pub tallies_after : (n f : ℕ) → Tally
  tallies_after n f = cond (ltb f n) (next f) (tally_at (state_of w) f)

  pub turned : (n : ℕ) → n ≤ count_in w
      → Holds (state_of w).plan (state_of w).clock (tallies_after n) (cell_at (state_of w)) (drop (plan_size (state_of w).plan) w) (turns n (tallied next) w)
  unfolding turns tallied
  turned zero h = hold_same _ _ _ _ _ _ (state_again w s) (tallies_after 0) _ (λ f l. rw (le-ltb f 0 (omega arith))) (λ x y l k. refl)
  turned (suc n) h =
      let now : tallies_after (suc n) n ≡ next n = rw (lt-ltb n (suc n) (omega arith)) in
      rw (← now)
      (tally_written _ _ (tallies_after n) _ _ _ (turned n (omega arith)) n (rw (counted w) h) (tallies_after (suc n)) others)
    where
      others : (g : ℕ) → g ≢ n → tallies_after (suc n) g ≡ tallies_after n g
      others g ne =
          elim (dec_lt g n) [
            | yes l ↦ rw (lt-ltb g (suc n) (omega arith), lt-ltb g n l)
            | no l ↦ rw (le-ltb g (suc n) (omega arith), le-ltb g n (omega arith))
          ]

  -- flow f's words, before its own turn, and its turn
  module _ (f : ℕ) (below : f < count_in w) (l : List ℕ) (at : ℕ) (now : l ≡ turns f (tallied next) w) (place : at ≡ flow_place f) where
    pub turned_flow : flow_in l at ≡ flow_at (state_of w).plan f
    turned_flow = rw (now, place) (flow_read _ (flow_place f) _ _ ((turned f (omega arith)).front.flow f (rw (counted w) below)))

    pub turned_tally : tally_in l at ≡ tally_at (state_of w) f
    turned_tally =
        rw (now, place)
        (tally_read _ (flow_place f) _ _ ((turned f (omega arith)).front.flow f (rw (counted w) below)) ∙ rw (le-ltb f f (omega arith)))

    pub turned_more : (t : Tally) → t ≡ next f → sets l (at + number_size) (tally_words t) ≡ turns (f + 1) (tallied next) w
    unfolding tallied
    turned_more t e = rw (place, e) (turns_more f (tallied next) w l now)

-- the same tallies, the same words
tallied_same : (next other : ℕ → Tally) (w : List ℕ) (n : ℕ) → ((f : ℕ) → f < n → next f ≡ other f) → turns n (tallied next) w ≡ turns n (tallied other) w
unfolding turns tallied
tallied_same next other w zero same = refl
tallied_same next other w (suc n) same = rw (same n (omega arith), tallied_same next other w n (λ f l. same f (omega arith)))

-- a walk whose next tallies a call gives
module _ (post : ℕ → Flow → Tally → Tally → Type 0) (w : List ℕ) where
  pub retallied_none : Retallied post w 0 w
  retallied_none = record { next = tally_at (state_of w); given = λ f l. absurd (omega arith); words = turns_none _ w }

  -- flow f's turn: the words there are those of the flow, and its next tally is written
  module _ (s : StateFacts w) (f : ℕ) (below : f < count_in w) (l : List ℕ) (at : ℕ) (walk : Retallied post w f l) (place : at ≡ flow_place f) where
    pub flow_here : flow_in l at ≡ flow_at (state_of w).plan f
    flow_here = turned_flow w s walk.next f below l at walk.words place

    pub tally_here : tally_in l at ≡ tally_at (state_of w) f
    tally_here = turned_tally w s walk.next f below l at walk.words place

    pub retallied_more : (t : Tally) → post f (flow_in l at) (tally_in l at) t → Retallied post w (f + 1) (sets l (at + number_size) (tally_words t))
    retallied_more t here = record { next = next; given = given; words = turned_more w s next f below l at (walk.words ∙ tallied_same _ _ w f before) place t (sym now) }
      where
        next : ℕ → Tally
        next g = cond (ltb g f) (walk.next g) t

        now : next f ≡ t
        now = rw (le-ltb f f (omega arith))

        before : (g : ℕ) → g < f → walk.next g ≡ next g
        before g less = rw (lt-ltb g f less)

        given : (g : ℕ) → g < f + 1 → post g (flow_at (state_of w).plan g) (tally_at (state_of w) g) (next g)
        given g less =
            elim (ℕ_discrete g f) [
              | yes e ↦ rw (e, now, ← flow_here, ← tally_here) here
              | no e ↦ rw (← before g (omega arith)) (walk.given g (omega arith))
            ]

  -- where a call gives but one tally at each flow, the walk writes that
  pub retallied : (next : ℕ → Tally) (n : ℕ) (l : List ℕ) → Retallied post w n l
      → ((f : ℕ) (t : Tally) → f < n → post f (flow_at (state_of w).plan f) (tally_at (state_of w) f) t → t ≡ next f)
      → l ≡ turns n (tallied next) w
  retallied next n l walk each = walk.words ∙ tallied_same _ _ w n (λ f less. each f _ less (walk.given f less))
