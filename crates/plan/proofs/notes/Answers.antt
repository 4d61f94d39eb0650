-- `notes`: an accepted file starts its records within the file.
use mathlib.Core.Path.{sym}
use native.Mathlib.Omega.{arith}
use lib.Seq.{length-take-le}
use Rattle.plan.specs.Notes.{notes_of}
use Rattle.plan.proofs.Accepted.{done_trailed}
use Rattle.plan.proofs.notes.Goals as goal

pub slice_bounds-result-end : goal.slice_bounds-result-end
slice_bounds-result-end c =
    let t = done_trailed _ _ (sym c.in-Ok.ensures.answer) in
    sym (length-take-le _ _ (rw (c.trailer.ensures.value, c.in-Ok.ensures.file) (omega (arith, t.long, t.frame.ends))))

pub returns-in-Ok : goal.returns-in-Ok
unfolding notes_of
returns-in-Ok c = rw (← c.in-Ok.ensures.answer, c.trailer.ensures.value, c.in-Ok.ensures.file)

pub returns-in-Err : goal.returns-in-Err
unfolding notes_of
returns-in-Err c = rw (← c.in-Err.ensures.answer)
