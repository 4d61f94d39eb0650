-- `push`: the register that is reached lies among those of the grid.
use Rattle.std.proofs.Common.{arith}
use Rattle.output.proofs.Reach.{reach_fits}
use Rattle.output.proofs.Grid.push.Goals as goal

pub put_register-requires : goal.put_register-requires
put_register-requires c =
    let on = c.requires.0 in
    rw c.reached.ensures (omega (arith, reach_fits c.args.self c.args.x c.args.y c.args.output on.column on.row))
