-- `write_accepted`: the length decides 1 and 15; the file is written.
use Prim.Native.Nat.{◌≤◌, ◌<◌}
use native.Mathlib.Omega.{arith}
use borrow.Author.Tests.{lt-ltb, le-ltb}
use lib.ListN.{length}
use Rattle.file.specs.Layout.{most_file}
use Rattle.plan.specs.Written.{plan_bytes}
use Rattle.state.specs.Read.{plan_in}
use Rattle.writing.specs.Parts.{file_size}
use Rattle.writing.proofs.Flows.{file_length, file_outcome}
use Rattle.writing.proofs.write_accepted.Goals as goal
use Rattle.writing.proofs.write_accepted.Goals.{Else-count-start}

pub returns-then-count-start : goal.returns-then-count-start
returns-then-count-start c =
    let a = c.args in
    let long : most_file < length (plan_bytes a.notes.now (plan_in a.state.now)) =
    omega (arith, file_length a.state.now a.notes.now, c.flows-count.ensures.facts.header.count_most)
    in
    rw (lt-ltb _ _ long, c.into.ensures)

-- the file to be written is not too long
fits : (c : goal.Else-count-start) → let a = c.args in file_size a.notes.now a.state.now ≤ most_file
fits c = omega (arith, c.flows-count.ensures.facts.header.count_most)

pub returns-then-target-size : goal.returns-then-target-size
returns-then-target-size c =
    let a = c.args in
    let size = file_length a.state.now a.notes.now in
    let bytes = plan_bytes a.notes.now (plan_in a.state.now) in
    rw (
      le-ltb most_file (length bytes) (omega (arith, fits (goal.at.returns-then-target-size c).Else-count-start)),
      lt-ltb (length a.target.now) (length bytes) (omega arith),
      c.into-then-target-size.ensures,
    )

pub returns : goal.returns
returns c =
    let a = c.args in
    rw c.flows-count.ensures.value
    (file_outcome a.state.now a.notes.now a.target.now _ (fits (goal.at.returns c).Else-count-start) (omega arith) c.put_file.ensures)
