-- `ready`: the rule's own tests.
use Rattle.std.proofs.Common.{arith}
use Rattle.std.proofs.lemmas.Bool.Decides.{nat_tests}
use Rattle.cycle.proofs.Facts.{flow_ok}
use Rattle.entry.proofs.Entrant.{ready_is}
use Rattle.entry.proofs.ready.Goals as goal

pub port_open-requires : goal.port_open-requires
port_open-requires c = let flow = c.flow.ensures in rw flow.value (flow_ok _ flow.facts _ c.requires)

pub returns-then-t-gt0-2 : goal.returns-then-t-gt0-2
returns-then-t-gt0-2 c =
    rw (ready_is, ← c.tally-t.ensures.value, ← c.flow.ensures.value, ← c.port_open.ensures) (grind (arith, nat_tests))

pub returns-else-t-gt0-2 : goal.returns-else-t-gt0-2
returns-else-t-gt0-2 c =
    rw (ready_is, ← c.tally-t.ensures.value) (grind (arith, nat_tests))
