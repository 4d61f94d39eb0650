-- A step that also tells why each flow didn't enter (02, U7). Answer, state and deliveries are those of `step_on`.
use Rattle.std.specs.Prelude.{List, ◌≡◌, ℕ, ◌+◌, ◌<◌, eqb, length, get_or}
use Rattle.laws.specs.Count.{one}
use Rattle.refusal.specs.Answer.{Answer}
use Rattle.router.specs.Reasons.{reason_words, list_number}
use Rattle.state.specs.State.{State, tally_at}
use Rattle.state.specs.Read.{state_of}
use Rattle.state.specs.Outcome.{Outcome, outcome, Lent, lent, unless, unless_refused, over}
use Rattle.cycle.specs.Seen.{view}
use Rattle.cycle.specs.Step.{step_state, step_on}

-- what it is lent: the step's memories, and the reason list
pub record Telling : Type 0 where
  pub step : Lent
  pub reasons : List ℕ

abbrev pub telling : Lent → (reasons : List ℕ) → Telling
telling step reasons = record { step = step; reasons = reasons }

-- each flow's word, "judged on the state before the step"
abbrev pub words_on : State → List ℕ
words_on s = reason_words s.plan (view s)

-- the step's own refusals, then 19; otherwise the step, and the reasons in front of the list: "Words after the last flow stay untouched"
unfoldable pub step_reasons_on : (words delivery reasons : List ℕ) → Outcome Answer Telling
step_reasons_on words delivery reasons =
    let o : Outcome Answer Lent = step_on words delivery in
    let s = state_of words in
    unless_refused o.answer (telling (lent words delivery) reasons)
    (unless (list_number s.plan (length reasons)) (telling (lent words delivery) reasons)
    (outcome o.answer (telling o.memory (over (words_on s) reasons))))

-- "0 it entered": a flow's count of entered packets rises by 1 in the step exactly where its word is 0
abbrev pub EveryEntry : Type 0
EveryEntry =
    (s : State) (f : ℕ) → f < length s.plan.flows
    → (tally_at (step_state s) f).entered ≡ (tally_at s f).entered + one (eqb (get_or (words_on s) f 0) 0)
