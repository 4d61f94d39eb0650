-- A set beside its single offers, made by calls of their own: accepted, it leaves their words; refused, they stop at its place. Rests
-- on Added and the laws of first refusals.
use mathlib.Core.List.{List, []}
use mathlib.Core.Path.{◌≡◌, refl, sym, ap, ◌∙◌}
use Prim.Native.Nat.{ℕ, zero, suc, ◌≤◌, ◌<◌}
use native.Mathlib.Numerals.{add-one}
use native.Mathlib.Omega.{arith}
use lib.ListN.{length, get_or}
use Rattle.laws.specs.Turns.{turns}
use Rattle.flow.specs.declared.Offerer.TheVariants.{Sonar}
use Rattle.flow.specs.Limits.{offer_number}
use Rattle.refusal.specs.Answer.{Answer, Done, Refused}
use Rattle.plan.specs.Refusals.{first_refused}
use Rattle.plan.proofs.Refusals.{first_done, first_refused_lem}
use Rattle.state.specs.State.{tally_at}
use Rattle.state.specs.Words.{state_words}
use Rattle.state.specs.Read.{state_of}
use Rattle.state.specs.Forms.{state_number}
use Rattle.state.specs.Outcome.{Outcome, outcome, refused, unless, unless_refused, over}
use Rattle.state.proofs.Over.{unless_passes, unless_refuses, unless_done, unless_refused_done, unless_refused_by}
use Rattle.cycle.specs.Offer.{offer_state, offer_on}
use Rattle.cycle.specs.Set.{with_first, entry_number, offer_set_on}
use Rattle.offers.specs.Inner.{Added}
use Rattle.offers.specs.OneByOne.{in_turn, EachAccepted, EverySet, EveryEmptySet, EveryRefusedSet}
use Rattle.offers.proofs.Added.{added_none, added_forms, added_number, added_more}
use Rattle.offers.proofs.Ends.{set_accepted}

-- a single offer on words that form a state
module _ (w : List ℕ) (formed : state_number w ≡ 0) (f n : ℕ) (number : offer_number Sonar (state_of w).plan f (tally_at (state_of w) f).waiting ≡ n) where
  offer_done : n ≡ 0 → offer_on Sonar w f ≡ outcome (Done 0) (over (state_words (offer_state (state_of w) f)) w)
  unfolding offer_on unless
  offer_done e = rw (formed, number, e)

  offer_refused : (n ≡ 0 → ⊥) → offer_on Sonar w f ≡ refused n w
  unfolding offer_on
  offer_refused h = rw (formed, number) (sym (unless_refuses n w _ h ∙ unless_passes 0 w _ refl))

abbrev number : (words flows : List ℕ) → (k : ℕ) → ℕ
number words flows k = entry_number (state_of words) flows k

module _ (words flows : List ℕ) (formed : state_number words ≡ 0) where
  module _ (n : ℕ) (inside : n ≤ length flows) (passed : (k : ℕ) → k < n → number words flows k ≡ 0) where
    -- the single offers add their entries
    turns_add : (k : ℕ) → k ≤ n → Added words flows k (in_turn words flows k)
    unfolding turns
    turns_add zero l = added_none words flows formed
    turns_add (suc k) l =
        let now = turns_add k (omega arith) in
        let free = passed k (omega arith) in
        let does = offer_done _ (added_forms _ _ _ _ now) (get_or flows k 0) _ (added_number _ _ _ _ now _ refl) free in
        rw add-one at (added_more _ _ _ _ now (get_or flows k 0) refl (omega arith) free _ (ap (λ (o : Outcome Answer (List ℕ)). o.memory) does))

    each_accepted : EachAccepted words flows n
    each_accepted k l =
        let now = turns_add k (omega arith) in
        ap (λ (o : Outcome Answer (List ℕ)). o.answer)
        (offer_done _ (added_forms _ _ _ _ now) (get_or flows k 0) _ (added_number _ _ _ _ now _ refl) (passed k l))

-- the answer of an accepted set, and of one that is refused on words that form a state
module _ (words flows : List ℕ) where
  abbrev all : Outcome Answer (List ℕ)
  all = outcome (Done 0) (over (state_words (with_first (state_of words) flows (length flows))) words)

  abbrev first : Answer
  first = first_refused (number words flows) (length flows)

  set_done : (offer_set_on words flows).answer ≡ Done 0 → (state_number words ≡ 0) × ((k : ℕ) → k < length flows → number words flows k ≡ 0)
  unfolding offer_set_on
  set_done e =
      let state = unless_done (state_number words) words (unless_refused first words all) 0 e in
      let passed = unless_refused_done first words all 0 (sym (ap (λ (o : Outcome Answer (List ℕ)). o.answer) state.1) ∙ e) in
      (state.0, first_done (number words flows) (length flows) passed.0 passed.1)

  module _ (formed : state_number words ≡ 0) (n place : ℕ) (e : (offer_set_on words flows).answer ≡ Refused n place) where
    first_is : first ≡ Refused n place
    unfolding offer_set_on unless
    first_is = unless_refused_by first words all 0 n place refl (rw formed at e)

    set_unchanged : (offer_set_on words flows).memory ≡ words
    unfolding offer_set_on unless unless_refused
    set_unchanged = rw (formed, first_is)

pub every_set : EverySet
every_set words flows e =
    let h = set_done words flows e in
    let added = turns_add words flows h.0 (length flows) (omega arith) h.1 (length flows) (omega arith) in
    record {
      each = each_accepted words flows h.0 (length flows) (omega arith) h.1;
      same = sym (ap (λ (o : Outcome Answer (List ℕ)). o.memory) (set_accepted words flows _ added));
    }

pub every_empty_set : EveryEmptySet
every_empty_set words formed = sym (set_accepted words [] words (added_none words [] formed))

pub every_refused_set : EveryRefusedSet
every_refused_set words flows n place formed e =
    let h = first_refused_lem (number words flows) (length flows) n place (first_is words flows formed n place e) in
    let now = turns_add words flows formed place (omega (arith, h.below)) h.earlier place (omega arith) in
    let there = offer_refused _ (added_forms _ _ _ _ now) (get_or flows place 0) n (added_number _ _ _ _ now _ refl ∙ h.here) in
    record {
      inside = h.below;
      each = each_accepted words flows formed place (omega (arith, h.below)) h.earlier;
      there = ap (λ (o : Outcome Answer (List ℕ)). o.answer) (there h.some);
      unchanged = set_unchanged words flows formed n place e;
    }
