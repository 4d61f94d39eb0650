-- `reached`: the neighbour's column or row by the torus.
use Rattle.std.proofs.Common.{arith}
use Rattle.torus.proofs.Axis.{next_below}
use Rattle.router.specs.Links.{reach}
use Rattle.output.proofs.Grid.reached.Goals as goal

pub router_index-requires : goal.router_index-requires
router_index-requires c =
    let p = c.requires in
    (p.sx_most, (rw c.next.ensures (next_below _ _ p.column), omega arith))

pub router_index-requires-in-South : goal.router_index-requires-in-South
router_index-requires-in-South c =
    let p = c.requires in
    let below = next_below _ _ p.row in
    (p.sx_most, (p.column, rw c.next-in-South.ensures (omega arith)))

pub returns-in-East : goal.returns-in-East
unfolding reach
returns-in-East c = rw (c.in-East.is, c.router_index.ensures.0, c.next.ensures)

pub returns-in-South : goal.returns-in-South
unfolding reach
returns-in-South c = rw (c.in-South.is, c.router_index-in-South.ensures.0, c.next-in-South.ensures)
