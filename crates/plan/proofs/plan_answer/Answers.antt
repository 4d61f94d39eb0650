-- `plan_answer`: a refusal of the trailer comes first; an accepted trailer frames the records.
use mathlib.Core.Path.{sym}
use native.Mathlib.Omega.{arith}
use Rattle.std.proofs.lemmas.Result.{err_from_is_err_and}
use Rattle.plan.proofs.Accepted.{Trailed, trailed, trailer_refused, answer_by_records}
use Rattle.plan.proofs.plan_answer.Goals as goal
use Rattle.plan.proofs.plan_answer.Goals.{In_ok-torus}

pub returns-in_err-torus : goal.returns-in_err-torus
returns-in_err-torus c =
    let p = err_from_is_err_and c.from_residual.result c.from_residual.ensures.1 in
    rw (p.1, p.2) (trailer_refused _ c.in_err-torus.field-0.0 c.in_err-torus.ensures.number)

frame : (c : In_ok-torus) → Trailed c.args.file.now
frame c = trailed _ (sym c.in_ok-torus.ensures.number)

pub trailer_of-trailer-requires : goal.trailer_of-trailer-requires
trailer_of-trailer-requires c = (frame c).long

pub check_records-requires : goal.check_records-requires
check_records-requires c =
    let t = frame (goal.at.check_records-requires c).In_ok-torus in
    rw c.trailer_of-trailer.ensures (record { torus = c.in_ok-torus.ensures.torus; count_in_bounds = omega (arith, t.frame.ends); count_le_most_flows = t.frame.count_most })

pub returns : goal.returns
returns c = rw (answer_by_records _ (sym c.in_ok-torus.ensures.number), ← c.trailer_of-trailer.ensures) c.check_records.ensures
