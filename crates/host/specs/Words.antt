-- An answer as one number for C (01, When a call says no, at the end).
use Rattle.std.specs.Prelude.{List, ℕ, ◌+◌, ◌*◌, length}
use Rattle.refusal.specs.Answer.{Answer, Done, Refused}
use Rattle.plan.specs.Refusals.{refused_or, plan_answer}
use Rattle.plan.specs.Notes.{notes_of}
use Rattle.state.specs.Outcome.{Outcome, outcome}

-- T, or 65,536 + the refusal number
abbrev pub window_word : Answer → ℕ
window_word (Done v) = v
window_word (Refused number place) = 65536 + number

-- every other call: the value, or number × 2^32 + place
abbrev pub answer_word : Answer → ℕ
answer_word (Done v) = v
answer_word (Refused number place) = number * 4294967296 + place

-- reading: the length of the notes, which lead the file
unfoldable pub notes_answer : List ℕ → Answer
notes_answer file = refused_or (plan_answer file) (Done (length (notes_of file)))

-- a call's outcome with its answer as that number
abbrev pub in_words : {M : Type 0} → Outcome Answer M → Outcome ℕ M
in_words o = outcome (answer_word o.answer) o.memory
