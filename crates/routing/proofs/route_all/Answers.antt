-- `route_all`: row by row. Rests on the laws of walks.
use Rattle.std.proofs.Common.{◌≡◌, ◌<◌, arith}
use Rattle.state.specs.Read.{sy_in}
use Rattle.routing.specs.Walk.{pushed_all}
use Rattle.routing.proofs.Exits.{walked_none, walked_more, all_room, all_delivered}
use Rattle.routing.proofs.route_all.Goals as goal
use Rattle.routing.proofs.route_all.Goals.{In-loop-y}

below : (c : goal.In-loop-y) → c.loop-y.y < sy_in c.args.state.now
below c = rw c.sy.ensures.value at c.loop-y-test.true

pub loop-y-init : goal.loop-y-init
loop-y-init c = (omega arith, walked_none _ _ _ _)

pub route_row-done-requires-clause-exit_room : goal.route_row-done-requires-clause-exit_room
route_row-done-requires-clause-exit_room c =
    all_room _ c.requires.all_entered.facts _ _ _ _ _ _ c.loop-y.invariant.1 c.requires.state_in_bounds_2
    (below (goal.at.route_row-done-requires-clause-exit_room c).In-loop-y)

pub loop-y-preserved : goal.loop-y-preserved
loop-y-preserved c =
    let row = c.route_row-done in (
      omega (arith, below (goal.at.loop-y-preserved c).In-loop-y),
      walked_more _ _ _ _ _ _ _ _ c.loop-y.invariant.1 _ _ _ row.ensures.next_after row.auto.next row.ensures.value row.ensures.delivery_after,
    )

pub returns : goal.returns
unfolding pushed_all
returns c =
    let w = c.args.state.now in
    let last : c.loop-y.y ≡ sy_in w = omega (arith, c.sy.ensures.value) in
    let walked = rw last at c.loop-y.invariant.1 in
    record {
      next_after = walked.next_is;
      value = rw (← (all_delivered w)) (omega (arith, walked.done_is));
      delivery_after = rw (← (all_delivered w)) walked.delivery_is;
    }
