-- `burst_in`: the rivals among the flows passed.
use Rattle.file.specs.Layout.{plan_of}
use Rattle.window.specs.Rivals.{RivalsAmong}
use Rattle.bounds.proofs.Bounds.burst_in.Given as goal

abbrev pub invariant-loop-g : goal.invariant-loop-g
invariant-loop-g g l = RivalsAmong (plan_of l.self) l.f l.g l.rivals
