-- `route_all`: row by row.
use Rattle.std.proofs.Common.{◌≤◌}
use Rattle.state.specs.Read.{sy_in}
use Rattle.routing.proofs.Exits.{Walked, all_walk}
use Rattle.routing.proofs.route_all.Given as goal

abbrev pub invariant-loop-y : goal.invariant-loop-y
invariant-loop-y l = (l.y ≤ sy_in l.walk) × Walked (all_walk l.walk) l.initial.next l.initial.delivery 0 l.y l.next l.delivery l.done
