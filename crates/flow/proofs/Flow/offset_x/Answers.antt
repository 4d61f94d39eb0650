-- `offset_x`: the law of the remainder, at this size.
use Rattle.torus.proofs.Axis.{offset_remainder}
use Rattle.flow.proofs.Flow.offset_x.Goals as goal

pub returns : goal.returns
returns c = offset_remainder _ _ _
