-- `read_state`: words that nothing is refused of form a state.
use mathlib.Core.Path.{sym}
use Rattle.state.proofs.Forms.{state_facts}
use Rattle.valid.proofs.read_state.Goals as goal

pub of-requires : goal.of-requires
of-requires c = state_facts _ (sym c.in_ok-check_state.ensures)
