-- `open`: an accepted file has a trailer, and its plan is one in 01's ranges.
use mathlib.Core.Path.{◌≡◌, sym}
use native.Mathlib.Omega.{arith}
use Rattle.refusal.specs.Answer.{Done}
use Rattle.plan.specs.Refusals.{plan_answer}
use Rattle.plan.proofs.Accepted.{done_trailed}
use Rattle.plan.proofs.Ranges.{plan_ok}
use Rattle.plan.proofs.PlanFile.open.Goals as goal
use Rattle.plan.proofs.PlanFile.open.Goals.{In_ok-plan_answer}

accepted : (c : In_ok-plan_answer) → plan_answer c.args.bytes.now ≡ Done 0
accepted c = sym c.in_ok-plan_answer.ensures

pub trailer_of-requires : goal.trailer_of-requires
trailer_of-requires c = (done_trailed _ 0 (accepted c)).long

pub invariant_of-result : goal.invariant_of-result
invariant_of-result c =
    let is = accepted (goal.at.invariant_of-result c).In_ok-plan_answer in
    (is, (c.trailer_of.ensures, plan_ok _ _ is (λ i. omega (arith, c.type_inv.bytes i))))
