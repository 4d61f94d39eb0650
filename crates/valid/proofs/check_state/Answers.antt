-- `check_state`: what the header's test tells.
use Rattle.std.proofs.Common.{sym, ◌∙◌}
use Rattle.state.proofs.Forms.{header_facts}
use Rattle.valid.proofs.check_state.Goals as goal

pub size_in-requires : goal.size_in-requires
size_in-requires c =
    (c.if-length-lt-HEADER_SIZE.false, header_facts _ (sym c.header_fits.ensures ∙ c.if-not-header_fits.false))
