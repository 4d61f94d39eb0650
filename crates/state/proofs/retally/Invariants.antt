use Rattle.std.proofs.Common.{◌≡◌, ◌≤◌, length}
use Rattle.state.specs.Tallied.{Retallied}
use Rattle.state.proofs.retally.Given as goal

abbrev pub invariant-loop-f : goal.invariant-loop-f
invariant-loop-f g l =
    (l.f ≤ l.f-end) × ((length l.state ≡ length l.initial.state) × Retallied (goal.N-post g l.next) l.initial.state l.f l.state)
