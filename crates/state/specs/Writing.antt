-- What writing answers and leaves behind (01, State memory; When a call says no).
use Rattle.std.specs.Prelude.{cond, List, ℕ, ltb, length}
use Rattle.refusal.specs.Answer.{Answer, Done}
use Rattle.file.specs.Layout.{most_file}
use Rattle.plan.specs.Written.{plan_bytes}
use Rattle.state.specs.Read.{plan_in}
use Rattle.state.specs.Forms.{state_number}
use Rattle.state.specs.Outcome.{Outcome, outcome, refused, unless, over}

-- writing a file's bytes: 1, then 15; otherwise the bytes, and their number
abbrev pub bytes_on : (bytes target : List ℕ) → Outcome Answer (List ℕ)
bytes_on bytes target =
    cond (ltb most_file (length bytes)) (refused 1 target)
    (cond (ltb (length target) (length bytes)) (refused 15 target)
    (outcome (Done (length bytes)) (over bytes target)))

-- writing from a state and lent notes: state, then 1, 15
unfoldable pub write_on : (words notes target : List ℕ) → Outcome Answer (List ℕ)
write_on words notes target = unless (state_number words) target (bytes_on (plan_bytes notes (plan_in words)) target)
