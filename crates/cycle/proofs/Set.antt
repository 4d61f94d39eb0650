-- The first entries of a set, none of them refused: the state with them added is sound, its waiting packets are as many more, and so
-- few that a position fits its word. Rests on Offer and specs/Set.
use mathlib.Core.List.{List}
use mathlib.Core.Path.{◌≡◌, refl, sym, ap}
use Prim.Native.Nat.{ℕ, zero, suc, ◌+◌, ◌*◌, ◌≤◌, ◌<◌}
use native.Mathlib.Omega.{arith}
use lib.ListN.{length, get_or}
use Rattle.laws.specs.Bounded.{sum_below}
use Rattle.laws.specs.Turns.{turns}
use Rattle.laws.proofs.Sum.{sum_one, sum_most}
use Rattle.laws.proofs.Turns.{turns_along, turns_more}
use Rattle.flow.specs.declared.Offerer.TheVariants.{Sonar}
use Rattle.flow.specs.Plan.{Plan, most_flows}
use Rattle.flow.specs.Limits.{most_waiting}
use Rattle.flow.proofs.Limits.{offer_passes}
use Rattle.plan.specs.Set.{set_number}
use Rattle.state.specs.declared.Tally.{Tally}
use Rattle.state.specs.State.{State, tally_at}
use Rattle.state.proofs.Forms.{tally_facts}
use Rattle.cycle.specs.Offer.{offer_state}
use Rattle.cycle.specs.Set.{with_first, entry_number}
use Rattle.cycle.proofs.Offer.{Sound, offer_sound, tally_here, tally_other}

module _ (s : State) (flows : List ℕ) where
  pub first_none : with_first s flows 0 ≡ s
  unfolding turns
  first_none = refl

  -- one entry more
  pub first_more : (n : ℕ) → with_first s flows (n + 1) ≡ offer_state (with_first s flows n) (get_or flows n 0)
  first_more n = sym (turns_more n _ s _ refl)

  pub first_plan : (n : ℕ) → (with_first s flows n).plan ≡ s.plan
  unfolding offer_state
  first_plan n = turns_along n _ s (λ (t : State). t.plan ≡ s.plan) (λ i l e. e) refl

  -- none of the first n entries is refused
  abbrev pub Passed : (n : ℕ) → Type 0
  Passed n = (k : ℕ) → k < n → entry_number s flows k ≡ 0

  -- an entry that isn't refused is a flow of the plan
  pub entry_known : (n : ℕ) → entry_number s flows n ≡ 0 → get_or flows n 0 < length s.plan.flows
  unfolding set_number
  entry_known n e = (offer_passes Sonar _ _ _ e).0

  module _ (sound : Sound s) where
    pub first_sound : (n : ℕ) → Passed n → Sound (with_first s flows n)
    unfolding set_number
    first_sound n passed = turns_along n _ s Sound (λ k l now. offer_sound Sonar _ _ now (rw (first_plan k) (passed k l))) sound

    -- all waiting packets
    abbrev waiting_in : State → ℕ
    waiting_in t = sum_below (length s.plan.flows) (λ f. (tally_at t f).waiting)

    waiting_more : (t : State) → Sound t → t.plan ≡ s.plan → (f : ℕ) → f < length s.plan.flows → waiting_in (offer_state t f) ≡ waiting_in t + 1
    unfolding offer_state
    waiting_more t now e f l =
        let below : f < length t.tallies = omega (arith, now.sized.tallies_all, ap (λ (p : Plan). length p.flows) e) in
        sum_one (λ g. (tally_at t g).waiting) (λ g. (tally_at (offer_state t f) g).waiting) (length s.plan.flows) f l
        (ap (λ (u : Tally). u.waiting) (tally_here t f _ below))
        (λ g h other. ap (λ (u : Tally). u.waiting) (tally_other t f _ below g other))

    -- as many more as entries
    waiting_first : (n : ℕ) → Passed n → waiting_in (with_first s flows n) ≡ waiting_in s + n
    unfolding turns
    waiting_first zero passed = omega arith
    waiting_first (suc n) passed =
        let earlier : Passed n = λ k l. passed k (omega arith) in
        let more = waiting_more (with_first s flows n) (first_sound n earlier) (first_plan n) _ (entry_known n (passed n (omega arith))) in
        omega (arith, more, waiting_first n earlier)

    waiting_most : (t : State) → Sound t → t.plan ≡ s.plan → waiting_in t ≤ most_waiting * length s.plan.flows
    waiting_most t now e =
        sum_most (λ f. (tally_at t f).waiting) most_waiting (length s.plan.flows)
        (λ f l. (tally_facts _ _ _ (now.fits.tally_ok f (rw e l))).waiting_most)

    -- a list longer than 65,535 × 256 can't be accepted
    pub first_few : (n : ℕ) → Passed n → n ≤ most_waiting * most_flows
    first_few n passed =
        let most = waiting_most (with_first s flows n) (first_sound n passed) (first_plan n) in
        omega (arith, most, waiting_first n passed, sound.fits.plan_ok.flows_most)
