-- `write`: the state's refusals come first.
use mathlib.Core.Path.{sym, ◌∙◌}
use Rattle.state.specs.Writing.{write_on}
use Rattle.state.proofs.Over.{unless_passes}
use Rattle.state.proofs.Causes.{cause_refuses}
use Rattle.writing.proofs.write.Goals as goal

pub returns-in_err-read_state : goal.returns-in_err-read_state
unfolding write_on
returns-in_err-read_state c = cause_refuses _ _ _ _ _ _ c.in_err-read_state.ensures.number c.from_residual.ensures.1

pub returns : goal.returns
unfolding write_on
returns c =
    rw c.in_ok-read_state.ensures.words at c.write_accepted.ensures ∙ unless_passes _ _ _ (sym c.in_ok-read_state.ensures.number)
