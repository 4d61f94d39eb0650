-- An offer: the state after it, and what it answers and leaves behind (01, State memory; When a call says no; 02, U6).
use Rattle.std.specs.Prelude.{List, ℕ, ◌+◌, set}
use Rattle.flow.specs.declared.Offerer.{Offerer}
use Rattle.flow.specs.Limits.{offer_number}
use Rattle.refusal.specs.Answer.{Answer, Done}
use Rattle.state.specs.declared.Tally.{Tally}
use Rattle.state.specs.State.{State, tally_at}
use Rattle.state.specs.Words.{state_words}
use Rattle.state.specs.Read.{state_of}
use Rattle.state.specs.Forms.{state_number}
use Rattle.state.specs.Outcome.{Outcome, outcome, unless, over}

-- so many packets of the flow waiting, and nothing else changed
abbrev pub with_waiting : State → (flow waiting : ℕ) → State
with_waiting s flow waiting =
    let t : Tally = tally_at s flow in
    record {
      plan = s.plan;
      clock = s.clock;
      tallies = set s.tallies flow (record { bucket = t.bucket; entered = t.entered; waiting = waiting });
      cells = s.cells;
    }

-- one more waiting, and nothing else
unfoldable pub offer_state : State → (flow : ℕ) → State
offer_state s flow = with_waiting s flow ((tally_at s flow).waiting + 1)

-- an offer: state, 12, then a full queue by the limit of who offers; otherwise one more waiting
unfoldable pub offer_on : Offerer → (words : List ℕ) → (flow : ℕ) → Outcome Answer (List ℕ)
offer_on who words flow =
    let s = state_of words in
    unless (state_number words) words
    (unless (offer_number who s.plan flow (tally_at s flow).waiting) words
    (outcome (Done 0) (over (state_words (offer_state s flow)) words)))
