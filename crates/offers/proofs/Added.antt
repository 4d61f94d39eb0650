-- Laws of a set under way: its memory holds the state with the first entries added; one entry more, one less, none. Rests on the
-- laws of a set's states.
use mathlib.Core.List.{List}
use mathlib.Core.Path.{◌≡◌, sym, ap, ◌∙◌}
use Prim.Native.Nat.{ℕ, ◌+◌, ◌-◌, ◌*◌, ◌≤◌, ◌<◌}
use native.Mathlib.Decide.{ℕ_discrete}
use native.Mathlib.Nat.{add-sub_cancel}
use native.Mathlib.Omega.{arith}
use lib.ListN.{length, get_or, set}
use lib.Seq.{set-set, set-get_or}
use Rattle.flow.specs.declared.Offerer.TheVariants.{Sonar}
use Rattle.flow.specs.Plan.{Plan, most_flows}
use Rattle.flow.specs.Limits.{most_waiting, offer_number}
use Rattle.plan.specs.Set.{set_number}
use Rattle.state.specs.declared.Tally.{Tally}
use Rattle.state.specs.State.{State, tally_at, fresh_tally}
use Rattle.state.specs.Words.{state_words}
use Rattle.state.specs.Read.{state_of}
use Rattle.state.specs.Forms.{state_number}
use Rattle.state.specs.Facts.{StateFlow}
use Rattle.state.specs.Outcome.{over}
use Rattle.state.proofs.View.{counted}
use Rattle.state.proofs.Forms.{state_facts}
use Rattle.cycle.specs.Offer.{offer_state}
use Rattle.cycle.specs.Set.{with_first, entry_number}
use Rattle.cycle.proofs.Offer.{Sound, words_sound, words_again, over_forms, over_read, over_again, tally_here}
use Rattle.cycle.proofs.Set.{first_none, first_more, first_plan, first_sound, first_few, entry_known}
use Rattle.offers.specs.Inner.{less_state, Added}

-- nothing is added yet, and what was taken back is as before
pub added_none : (before flows : List ℕ) → state_number before ≡ 0 → Added before flows 0 before
added_none before flows e =
    record {
      formed = e;
      entries = omega arith;
      passed = λ k l. absurd (omega arith);
      words = rw (first_none (state_of before) flows) (words_again before e);
    }

pub added_back : (before flows memory : List ℕ) → Added before flows 0 memory → memory ≡ before
added_back before flows memory a = a.words ∙ rw (first_none (state_of before) flows) (sym (words_again before a.formed))

module _ (before flows : List ℕ) (n : ℕ) (memory : List ℕ) (a : Added before flows n memory) where
  abbrev s : State
  s = state_of before

  sound : Sound (with_first s flows n)
  sound = first_sound s flows (words_sound before a.formed) n a.passed

  -- the memory holds the state with the first entries
  pub added_forms : state_number memory ≡ 0
  added_forms = rw a.words (over_forms (with_first s flows n) sound before)

  pub added_state : state_of memory ≡ with_first s flows n
  added_state = ap state_of a.words ∙ over_read (with_first s flows n) sound before

  -- so few that a position fits its word
  pub added_few : n ≤ most_waiting * most_flows
  added_few = first_few s flows (words_sound before a.formed) n a.passed

  -- the next entry's number
  pub added_number : (f : ℕ) → f ≡ get_or flows n 0
      → offer_number Sonar (state_of memory).plan f (tally_at (state_of memory) f).waiting ≡ entry_number s flows n
  unfolding set_number
  added_number f e = rw (added_state, e, first_plan s flows n)

  -- another state of the plan, written over the memory
  rewritten : (t : State) → t.plan ≡ s.plan → over (state_words t) memory ≡ over (state_words t) before
  rewritten t e = rw a.words (over_again (with_first s flows n) t before (e ∙ sym (first_plan s flows n)))

  module _ (f : ℕ) (entry : f ≡ get_or flows n 0) (inside : n < length flows) (free : entry_number s flows n ≡ 0) where
    -- the next entry is a flow of the state
    pub next_flow : StateFlow memory f
    next_flow =
        let plan = ap (λ (t : State). t.plan) added_state ∙ first_plan s flows n in
        let known : f < length (state_of memory).plan.flows = rw (plan, entry) (entry_known s flows n free) in
        record { facts = state_facts memory added_forms; below = rw (counted memory) at known }

    -- with it added there is one entry more
    pub added_more : (after : List ℕ) → after ≡ over (state_words (offer_state (state_of memory) f)) memory → Added before flows (n + 1) after
    added_more after e =
        record {
          formed = a.formed;
          entries = omega arith;
          passed = λ k l. elim (ℕ_discrete k n) [ yes same ↦ rw same free | no other ↦ a.passed k (omega arith) ];
          words = e ∙ rw (added_state, entry, ← (first_more s flows n)) (rewritten (with_first s flows (n + 1)) (first_plan s flows (n + 1)));
        }

-- one waiting less gives the state before it
offer_back : (s : State) (f : ℕ) → f < length s.tallies → less_state (offer_state s f) f ≡ s
unfolding offer_state
offer_back s f below =
    let t : Tally = tally_at s f in
    let one : List Tally = (offer_state s f).tallies in
    let less : Tally → Tally = λ u. record { bucket = u.bucket; entered = u.entered; waiting = u.waiting - 1 } in
    let same : less (tally_at (offer_state s f) f) ≡ t =
    ap less (tally_here s f (t.waiting + 1) below)
    ∙ ap (λ n. record { bucket = t.bucket; entered = t.entered; waiting = n }) (add-sub_cancel t.waiting 1) in
    let back : set one f (less (tally_at (offer_state s f) f)) ≡ s.tallies =
    ap (set one f) same ∙ set-set s.tallies f _ t ∙ set-get_or s.tallies f (fresh_tally 0) in
    λ i. record { plan = s.plan; clock = s.clock; tallies = back i; cells = s.cells }

-- the last entry is a flow of the state, a packet of it waits, and without that packet there is one entry less
module _ (before flows : List ℕ) (n : ℕ) (memory : List ℕ) (a : Added before flows (n + 1) memory) (f : ℕ) (entry : f ≡ get_or flows n 0) where
  abbrev was : State
  was = state_of before

  abbrev last : State
  last = with_first was flows n

  fewer : Sound last
  fewer = first_sound was flows (words_sound before a.formed) n (λ k l. a.passed k (omega arith))

  known : f < length was.plan.flows
  known = rw entry (entry_known was flows n (a.passed n (omega arith)))

  tallied : f < length last.tallies
  tallied = omega (arith, fewer.sized.tallies_all, known, ap (λ (p : Plan). length p.flows) (first_plan was flows n))

  is_offer : state_of memory ≡ offer_state last f
  is_offer = added_state before flows (n + 1) memory a ∙ first_more was flows n ∙ ap (offer_state last) (sym entry)

  pub last_flow : StateFlow memory f
  last_flow =
      let plan = ap (λ (t : State). t.plan) (added_state before flows (n + 1) memory a) ∙ first_plan was flows (n + 1) in
      let below : f < length (state_of memory).plan.flows = rw plan known in
      record { facts = state_facts memory (added_forms before flows (n + 1) memory a); below = rw (counted memory) at below }

  pub last_waits : 1 ≤ (tally_at (state_of memory) f).waiting
  unfolding offer_state
  last_waits = rw (is_offer, tally_here last f _ tallied) (omega arith)

  pub added_less : (after : List ℕ) → after ≡ over (state_words (less_state (state_of memory) f)) memory → Added before flows n after
  added_less after e =
      record {
        formed = a.formed;
        entries = omega (arith, a.entries);
        passed = λ k l. a.passed k (omega arith);
        words = e ∙ rw (is_offer, offer_back last f tallied) (rewritten before flows (n + 1) memory a last (first_plan was flows n));
      }
