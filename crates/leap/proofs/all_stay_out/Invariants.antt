use Prim.Native.Nat.{◌≤◌}
use Rattle.state.specs.Read.{state_of}
use Rattle.leap.specs.Leap.{AllStayOut}
use Rattle.leap.proofs.all_stay_out.Given as goal

abbrev pub invariant-loop-f : goal.invariant-loop-f
invariant-loop-f l = (l.k ≤ l.most) × AllStayOut l.k (state_of l.state) l.f
