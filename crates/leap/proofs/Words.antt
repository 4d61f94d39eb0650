-- What the words tell of a leap, and what it writes of them. Rests on the laws of a state's words.
use mathlib.Core.List.{List}
use mathlib.Core.Path.{◌≡◌, refl, ap, ◌∙◌}
use Prim.Native.Nat.{ℕ, ◌+◌, ◌*◌, ◌<◌}
use native.Mathlib.Decide.{ℕ_discrete}
use native.Mathlib.Omega.{arith}
use borrow.Author.Tests.{lt-ltb}
use lib.ListN.{length, get_or, set, drop}
use Rattle.laws.specs.Grid.{cell_index}
use Rattle.laws.specs.Turns.{turns}
use Rattle.laws.proofs.Bounded.{get_d_tabulate}
use Rattle.laws.proofs.Grid.{cell_below}
use Rattle.flow.specs.Limits.{last_clock}
use Rattle.state.specs.Layout.{clock_place, register_size, flow_place, plan_size}
use Rattle.state.specs.State.{tally_at, cell_at, fresh_tally}
use Rattle.state.specs.Words.{state_words}
use Rattle.state.specs.Read.{sx_in, sy_in, count_in, clock_in, router_in, plan_in, state_of}
use Rattle.state.specs.Outcome.{over}
use Rattle.state.specs.Facts.{StateFacts}
use Rattle.state.specs.Tallied.{tallied}
use Rattle.state.proofs.View.{counted, view_cell}
use Rattle.state.proofs.Holds.{HoldsState, hold_same, hold_over, clock_written}
use Rattle.state.proofs.Tallied.{turned}
use Rattle.leap.specs.Leap.{passed_at, leap_state, Vacant, Leapt}

-- what holds of every number below n, and of n
pub one_more : {P : ℕ → Type 0} (n : ℕ) → ((j : ℕ) → j < n → P j) → P n → (j : ℕ) → j < n + 1 → P j
one_more {P} n all here j l = elim (ℕ_discrete j n) [ yes e ↦ rw e here | no e ↦ all j (omega arith) ]

-- every register's first word is 0
pub zeros_vacant : (w : List ℕ) → ((j : ℕ) → j < 2 * (sx_in w * sy_in w) → get_or w (flow_place (count_in w) + register_size * j) 0 ≡ 0) → Vacant (state_of w)
unfolding state_of plan_in
zeros_vacant w zeros x y l m =
    let c = cell_index (sx_in w) x y in
    let below = cell_below (sx_in w) (sy_in w) x y l m in
    let west : flow_place (count_in w) + register_size * (2 * c) ≡ router_in w x y = omega arith in
    let north : flow_place (count_in w) + register_size * (2 * c + 1) ≡ router_in w x y + register_size = omega arith in
    let w0 = ap (λ n. get_or w n 0) west in
    let n0 = ap (λ n. get_or w n 0) north in
    let w_empty : get_or w (router_in w x y) 0 ≡ 0 = omega (arith, w0, zeros (2 * c) (omega arith)) in
    let n_empty : get_or w (router_in w x y + register_size) 0 ≡ 0 = omega (arith, n0, zeros (2 * c + 1) (omega arith)) in
    view_cell w x y l m ∙ rw (w_empty, n_empty)

-- no leap
pub leapt_none : (w : List ℕ) (most : ℕ) → clock_in w < last_clock + 1 → Leapt w most 0 w
leapt_none w most l =
    record {
      within = omega arith;
      clock_most = omega arith;
      stays = λ e. refl;
      idle = λ h. absurd (omega arith);
      leaps = λ h. absurd (omega arith);
    }

-- all tallies and the clock: the words of the state k cycles later, and the rest as it was
module _ (w : List ℕ) (s : StateFacts w) (k : ℕ) where
  leap_holds : HoldsState (leap_state k (state_of w)) (drop (plan_size (leap_state k (state_of w)).plan) w)
      (set (turns (count_in w) (tallied (passed_at k (state_of w))) w) clock_place (clock_in w + k))
  unfolding leap_state state_of
  leap_holds =
      hold_same _ _ _ _ _ _
      (clock_written _ _ _ _ _ _ (turned w s (passed_at k (state_of w)) (count_in w) (omega arith)) (clock_in w + k))
      (tally_at (leap_state k (state_of w))) (cell_at (leap_state k (state_of w)))
      (λ f h. get_d_tabulate (length (state_of w).plan.flows) (passed_at k (state_of w)) f (fresh_tally 0) h ∙ rw (lt-ltb f (count_in w) (rw (counted w) at h)))
      (λ x y h k. refl)

  pub leap_over : set (turns (count_in w) (tallied (passed_at k (state_of w))) w) clock_place (clock_in w + k) ≡ over (state_words (leap_state k (state_of w))) w
  leap_over = hold_over (leap_state k (state_of w)) _ w leap_holds
