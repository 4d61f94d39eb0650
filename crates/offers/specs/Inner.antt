-- A set under way, as inner functions promise it: its first entries are added to the state that the memory had before, or taken back.
use Rattle.std.specs.Prelude.{List, ◌≡◌, ℕ, ◌-◌, ◌≤◌, ◌<◌, length}
use Rattle.refusal.specs.Answer.{Answer, Done, Refused}
use Rattle.state.specs.State.{State, tally_at}
use Rattle.state.specs.Words.{state_words}
use Rattle.state.specs.Read.{state_of}
use Rattle.state.specs.Forms.{state_number}
use Rattle.state.specs.Outcome.{over}
use Rattle.cycle.specs.Offer.{with_waiting}
use Rattle.cycle.specs.Set.{with_first, entry_number}

-- one less waiting, and nothing else
abbrev pub less_state : State → (flow : ℕ) → State
less_state s flow = with_waiting s flow ((tally_at s flow).waiting - 1)

-- the memory has the first n entries added, none of which is refused
pub record Added (before flows : List ℕ) (n : ℕ) (memory : List ℕ) : Type 0 where
  pub formed : state_number before ≡ 0
  pub entries : n ≤ length flows
  pub passed : (k : ℕ) → k < n → entry_number (state_of before) flows k ≡ 0
  pub words : memory ≡ over (state_words (with_first (state_of before) flows n)) before

-- so many that the next would be refused with that number
pub record Stopped (before flows : List ℕ) (number n : ℕ) (memory : List ℕ) : Type 0 where
  pub added : Added before flows n memory
  pub inside : n < length flows
  pub here : number ≡ entry_number (state_of before) flows n
  pub some : 1 ≤ number

-- by the answer: all are added, or those before the place
abbrev pub AddedAs : (before flows : List ℕ) → Answer → (memory : List ℕ) → Type 0
AddedAs before flows (Done v) memory = Added before flows (length flows) memory
AddedAs before flows (Refused number place) memory = Stopped before flows number place memory

-- some memory had the first n entries added
abbrev pub WasAdded : (flows : List ℕ) → (n : ℕ) → (memory : List ℕ) → Type 0
WasAdded flows n memory = (before : List ℕ) × Added before flows n memory

-- whatever memory that was, it is back
abbrev pub IsBack : (flows : List ℕ) → (n : ℕ) → (memory after : List ℕ) → Type 0
IsBack flows n memory after = (before : List ℕ) → Added before flows n memory → after ≡ before
