-- Many steps in one call: that many steps, one after the other, each delivering behind the last. They end early before a step for which
-- the delivery memory left is too short, and at the last clock. Answers and memories are those of `step_on`, step by step.
use Rattle.std.specs.Prelude.{List, ◌++◌, ℕ, ◌+◌, ◌*◌, take, drop}
use Rattle.laws.specs.Turns.{turns}
use Rattle.flow.specs.Limits.{exit_size, most_delivered}
use Rattle.refusal.specs.Answer.{Answer, Done, Refused}
use Rattle.state.specs.Outcome.{Outcome, outcome, Lent, lent, unless_refused}
use Rattle.cycle.specs.Step.{step_on}

-- the steps before: the number of their exits, and the memories as they left them. One step more, with this answer and these memories: its
-- exits are added, and its words stand behind theirs. A refused one, with 10 or 11, changes nothing, and neither does any later one
abbrev pub joined : Outcome ℕ Lent → Answer → Lent → Outcome ℕ Lent
joined before (Done exits) after =
    outcome (before.answer + exits) (lent after.state (take (exit_size * before.answer) before.memory.other ++ after.other))
joined before (Refused number place) after = before

-- it is lent the state as the last one left it, and the delivery memory behind the exits before
unfoldable pub step_more : Outcome ℕ Lent → Outcome ℕ Lent
step_more before =
    let o : Outcome Answer Lent = step_on before.memory.state (drop (exit_size * before.answer) before.memory.other) in
    joined before o.answer o.memory

-- the refusals of a step, judged at the start; otherwise that many steps on the front of the delivery memory, and the number of all exits.
-- What lies past that front stays
unfoldable pub steps_on : (words delivery : List ℕ) → (cycles : ℕ) → Outcome Answer Lent
steps_on words delivery cycles =
    let all : Outcome ℕ Lent = turns cycles (λ i. step_more) (outcome 0 (lent words (take most_delivered delivery))) in
    unless_refused (step_on words delivery).answer (lent words delivery)
    (outcome (Done all.answer) (lent all.memory.state (all.memory.other ++ drop most_delivered delivery)))
