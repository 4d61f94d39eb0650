-- What the test of a flow's coordinates tells. Rests on specs/Plan.
use mathlib.Core.Bool.{true, ◌&&◌}
use mathlib.Core.Path.{◌≡◌}
use Prim.Native.Nat.{ℕ, ◌<◌}
use borrow.Author.Tests.{ltb-true}
use lib.Dec.{ltb}
use Rattle.laws.proofs.Cases.{and_true}
use Rattle.flow.specs.declared.Flow.{Flow}
use Rattle.flow.specs.Plan.{on_torus}

-- every coordinate is below its size
pub record FlowOn (sx sy : ℕ) (f : Flow) : Type 0 where
  pub xs_on : f.xs < sx
  pub ys_on : f.ys < sy
  pub xd_on : f.xd < sx
  pub yd_on : f.yd < sy

pub on_torus_facts : (sx sy : ℕ) (f : Flow) → on_torus sx sy f ≡ true → FlowOn sx sy f
on_torus_facts sx sy f e =
    let three = and_true (ltb f.xs sx && ltb f.ys sy && ltb f.xd sx) (ltb f.yd sy) e in
    let two = and_true (ltb f.xs sx && ltb f.ys sy) (ltb f.xd sx) three.0 in
    let one = and_true (ltb f.xs sx) (ltb f.ys sy) two.0 in
    record { xs_on = ltb-true _ _ one.0; ys_on = ltb-true _ _ one.1; xd_on = ltb-true _ _ two.1; yd_on = ltb-true _ _ three.1 }
