-- The words with a flow's tally written anew hold the state with so many packets of it waiting. Rests on the laws of a state's words.
use mathlib.Core.List.{List}
use mathlib.Core.Path.{◌≡◌, sym, ap, ◌∙◌}
use Prim.Native.Nat.{ℕ, ◌+◌, ◌<◌}
use native.Mathlib.Omega.{arith}
use lib.ListN.{drop}
use lib.Seq.{sets, get_or-set_other}
use Rattle.state.specs.declared.Tally.{Tally}
use Rattle.state.specs.Layout.{number_size, flow_place, plan_size}
use Rattle.state.specs.State.{State, tally_at, fresh_tally}
use Rattle.state.specs.Words.{tally_words, state_words}
use Rattle.state.specs.Read.{count_in, state_of}
use Rattle.state.specs.Outcome.{over}
use Rattle.state.specs.Facts.{StateFacts}
use Rattle.state.proofs.View.{counted, view_sized}
use Rattle.state.proofs.Holds.{HoldsState, hold_over, tally_written}
use Rattle.state.proofs.Again.{state_again}
use Rattle.cycle.specs.Offer.{with_waiting}
use Rattle.cycle.proofs.Offer.{tally_here}

module _ (w : List ℕ) (facts : StateFacts w) (f : ℕ) (below : f < count_in w) (n : ℕ) where
  abbrev s : State
  s = state_of w

  waiting_holds : HoldsState (with_waiting s f n) (drop (plan_size (with_waiting s f n).plan) w)
      (sets w (flow_place f + number_size) (tally_words (tally_at (with_waiting s f n) f)))
  waiting_holds =
      tally_written _ _ _ _ _ _ (state_again w facts) f (rw (counted w) below) (tally_at (with_waiting s f n))
      (λ g e. get_or-set_other s.tallies f g _ (fresh_tally 0) e)

  pub waiting_over : (at : ℕ) (t : Tally) → at ≡ flow_place f
      → t ≡ record { bucket = (tally_at s f).bucket; entered = (tally_at s f).entered; waiting = n }
      → sets w (at + number_size) (tally_words t) ≡ over (state_words (with_waiting (state_of w) f n)) w
  waiting_over at t e d =
      let here = tally_here s f n (omega (arith, (view_sized w).tallies_all, counted w)) in
      rw (e, d ∙ sym here) (hold_over (with_waiting s f n) _ w waiting_holds)

-- as many as a tally that was read tells
pub waiting_by : (change : ℕ → ℕ) (w : List ℕ) (f : ℕ) (t : Tally) → t ≡ tally_at (state_of w) f
    → over (state_words (with_waiting (state_of w) f (change t.waiting))) w
    ≡ over (state_words (with_waiting (state_of w) f (change (tally_at (state_of w) f).waiting))) w
waiting_by change w f t e = ap (λ (u : Tally). over (state_words (with_waiting (state_of w) f (change u.waiting))) w) e
