-- `route_row`: router by router.
use Rattle.std.proofs.Common.{◌≤◌}
use Rattle.state.specs.Read.{sx_in}
use Rattle.routing.proofs.Exits.{Walked, row_walk}
use Rattle.routing.proofs.Walk.route_row.Given as goal

abbrev pub invariant-loop-x : goal.invariant-loop-x
invariant-loop-x l =
    (l.x ≤ sx_in l.self) × Walked (row_walk l.self l.y) l.initial.next l.initial.delivery l.count l.x l.next l.delivery l.done
