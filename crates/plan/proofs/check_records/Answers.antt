-- `check_records`: no flow passed is refused, so the first refused one is answered.
use mathlib.Core.Path.{◌≡◌, sym}
use native.Mathlib.Omega.{arith}
use Rattle.plan.specs.Refusals.{flow_number}
use Rattle.plan.proofs.Refusals.{first_none, first_more, cause_first}
use Rattle.plan.proofs.check_records.Goals as goal

pub loop-f-init : goal.loop-f-init
loop-f-init c = first_none _

pub returns-in-Err : goal.returns-in-Err
unfolding flow_number
returns-in-Err c =
    rw c.at.ensures (cause_first _ _ _ c.in-Err.cause c.loop-f-test.true c.loop-f.invariant (rw (← c.flow_from.ensures, ← c.requires.torus.0, ← c.requires.torus.1) c.in-Err.ensures))

pub loop-f-preserved : goal.loop-f-preserved
unfolding flow_number
loop-f-preserved c = first_more _ _ c.loop-f.invariant (rw (← c.flow_from.ensures, ← c.requires.torus.0, ← c.requires.torus.1) (sym c.in_default.ensures))

pub returns : goal.returns
returns c =
    let e : c.loop-f.f ≡ c.args.t.count = omega arith in
    sym (rw e at c.loop-f.invariant)
