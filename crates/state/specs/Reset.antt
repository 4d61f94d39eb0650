-- What reset answers and leaves behind (01, State memory; When a call says no).
use Rattle.std.specs.Prelude.{cond, List, ℕ, ltb, length}
use Rattle.flow.specs.Plan.{Plan}
use Rattle.refusal.specs.Answer.{Answer, Done}
use Rattle.file.specs.Layout.{plan_of}
use Rattle.plan.specs.Refusals.{plan_answer}
use Rattle.state.specs.Layout.{plan_size}
use Rattle.state.specs.State.{reset_state}
use Rattle.state.specs.Words.{state_words}
use Rattle.state.specs.Outcome.{Outcome, outcome, refused, unless_refused, over}

-- the reset of a plan: 8; otherwise the reset state's words
abbrev pub fresh_on : Plan → (words : List ℕ) → Outcome Answer (List ℕ)
fresh_on p words =
    cond (ltb (length words) (plan_size p)) (refused 8 words)
    (outcome (Done 0) (over (state_words (reset_state p)) words))

-- reset: plan, then 8
unfoldable pub reset_on : (file words : List ℕ) → Outcome Answer (List ℕ)
reset_on file words = unless_refused (plan_answer file) words (fresh_on (plan_of file) words)
