-- `check_next`: the step's, with the memory behind the exits.
use Rattle.steps.specs.Loop.{number_behind}
use Rattle.steps.proofs.check_next.Goals as goal

pub returns : goal.returns
unfolding number_behind
returns c = rw c.of.ensures at c.check_room.ensures
