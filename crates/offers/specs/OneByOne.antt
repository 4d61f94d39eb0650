-- A set beside its single offers, made by calls of their own one after the other (02, U4).
use Rattle.std.specs.Prelude.{List, [], ◌≡◌, ℕ, ◌<◌, length, get_or}
use Rattle.laws.specs.Turns.{turns}
use Rattle.flow.specs.declared.Offerer.TheVariants.{Sonar}
use Rattle.refusal.specs.Answer.{Done, Refused}
use Rattle.state.specs.Forms.{state_number}
use Rattle.state.specs.Outcome.{outcome}
use Rattle.cycle.specs.Offer.{offer_on}
use Rattle.cycle.specs.Set.{offer_set_on}

-- the words after the first n entries, each offered by a sonar's call of its own
abbrev pub in_turn : (words flows : List ℕ) → (n : ℕ) → List ℕ
in_turn words flows n = turns n (λ k now. (offer_on Sonar now (get_or flows k 0)).memory) words

-- each of these calls answers 0
abbrev pub EachAccepted : (words flows : List ℕ) → (n : ℕ) → Type 0
EachAccepted words flows n = (k : ℕ) → k < n → (offer_on Sonar (in_turn words flows k) (get_or flows k 0)).answer ≡ Done 0

-- an accepted set leaves exactly the words of its single offers one after the other
pub record OneByOne (words flows : List ℕ) : Type 0 where
  pub each : EachAccepted words flows (length flows)
  pub same : (offer_set_on words flows).memory ≡ in_turn words flows (length flows)

abbrev pub EverySet : Type 0
EverySet = (words flows : List ℕ) → (offer_set_on words flows).answer ≡ Done 0 → OneByOne words flows

-- an empty list is accepted and changes nothing
abbrev pub EveryEmptySet : Type 0
EveryEmptySet = (words : List ℕ) → state_number words ≡ 0 → offer_set_on words [] ≡ outcome (Done 0) words

-- a set that is refused on words that form a state: the single offers before the place are accepted, the one there is refused with
-- that number, and the set changes nothing
pub record StopsAt (words flows : List ℕ) (number place : ℕ) : Type 0 where
  pub inside : place < length flows
  pub each : EachAccepted words flows place
  pub there : (offer_on Sonar (in_turn words flows place) (get_or flows place 0)).answer ≡ Refused number 0
  pub unchanged : (offer_set_on words flows).memory ≡ words

abbrev pub EveryRefusedSet : Type 0
EveryRefusedSet =
    (words flows : List ℕ) (number place : ℕ) → state_number words ≡ 0 → (offer_set_on words flows).answer ≡ Refused number place
    → StopsAt words flows number place
