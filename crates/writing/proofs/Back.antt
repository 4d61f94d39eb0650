-- For every file that reset accepts: writing the state that it left, with the file's notes, gives the file's bytes back.
use mathlib.Core.List.{List}
use mathlib.Core.Path.{◌≡◌}
use Prim.Native.Nat.{ℕ, ◌≤◌}
use borrow.Author.Tests.{le-ltb}
use lib.ListN.{length}
use Rattle.refusal.specs.Answer.{Done}
use Rattle.file.specs.Layout.{most_file, plan_of}
use Rattle.plan.specs.Refusals.{plan_answer}
use Rattle.plan.specs.Notes.{notes_of}
use Rattle.plan.proofs.Accepted.{done_trailed}
use Rattle.plan.proofs.Ranges.{Bytes}
use Rattle.plan.proofs.Written.{written_back}
use Rattle.state.specs.Read.{plan_in}
use Rattle.state.specs.Forms.{state_number}
use Rattle.state.specs.Outcome.{outcome, unless, over}
use Rattle.state.specs.Reset.{reset_on}
use Rattle.state.specs.Writing.{write_on}
use Rattle.reset.proofs.Leaves.{reset_done, reset_forms, reset_plan}

-- any words that form a state with an accepted file's plan numbers give that file, whatever their clock, tallies and registers
pub file_back : (file words target : List ℕ) (v : ℕ) → Bytes file → plan_answer file ≡ Done v
    → state_number words ≡ 0 → plan_in words ≡ plan_of file → length file ≤ length target
    → write_on words (notes_of file) target ≡ outcome (Done (length file)) (over file target)
unfolding write_on unless
file_back file words target v bytes e forms plan room =
    rw (forms, plan, written_back file v bytes e, le-ltb most_file (length file) (done_trailed file v e).most, le-ltb (length target) (length file) room)

-- so the words that reset left do
pub reset_back : (file memory target : List ℕ) → Bytes file → (reset_on file memory).answer ≡ Done 0 → length file ≤ length target
    → write_on (reset_on file memory).memory (notes_of file) target ≡ outcome (Done (length file)) (over file target)
reset_back file memory target bytes e room =
    let a = reset_done file memory e in
    file_back file (reset_on file memory).memory target a.value bytes a.file_done
    (reset_forms file memory bytes e) (reset_plan file memory bytes e) room
