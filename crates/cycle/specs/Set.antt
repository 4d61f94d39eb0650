-- An offer that names a set of flows as a list of numbers: every packet in it is accepted or none is (02, U4).
use Rattle.std.specs.Prelude.{List, ℕ, length, get_or}
use Rattle.laws.specs.Turns.{turns}
use Rattle.refusal.specs.Answer.{Answer, Done}
use Rattle.plan.specs.Set.{set_number, set_answer}
use Rattle.state.specs.State.{State, tally_at}
use Rattle.state.specs.Words.{state_words}
use Rattle.state.specs.Read.{state_of}
use Rattle.state.specs.Forms.{state_number}
use Rattle.state.specs.Outcome.{Outcome, outcome, unless, unless_refused, over}
use Rattle.cycle.specs.Offer.{offer_state}

-- the first n entries added, one after the other; a number named twice counts twice
abbrev pub with_first : State → (flows : List ℕ) → (n : ℕ) → State
with_first s flows n = turns n (λ k now. offer_state now (get_or flows k 0)) s

-- how many packets of a flow wait once so many entries are added
abbrev pub waiting_after : State → (flows : List ℕ) → (added flow : ℕ) → ℕ
waiting_after s flows added flow = (tally_at (with_first s flows added) flow).waiting

-- what the entry at this position would be refused for, or 0
abbrev pub entry_number : State → (flows : List ℕ) → (position : ℕ) → ℕ
entry_number s flows = set_number s.plan (waiting_after s flows) flows

-- a set: state; the first entry that would be refused; otherwise every packet in it is accepted. An empty list is accepted and changes
-- nothing
unfoldable pub offer_set_on : (words flows : List ℕ) → Outcome Answer (List ℕ)
offer_set_on words flows =
    let s = state_of words in
    unless (state_number words) words
    (unless_refused (set_answer s.plan (waiting_after s flows) flows) words
    (outcome (Done 0) (over (state_words (with_first s flows (length flows))) words)))
