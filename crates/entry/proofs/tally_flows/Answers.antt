-- `tally_flows`: each flow's call. Rests on the law of such a walk, and on what a flow's turn finds.
use Rattle.std.proofs.Common.{rules, arith}
use Rattle.state.proofs.Tallied.{retallied}
use Rattle.cycle.proofs.Facts.{flow_ok, tally_ok}
use Rattle.entry.proofs.Entrant.{enters_has, next_tally_lem}
use Rattle.entry.proofs.Clients.{entrant_fits, entered_found}
use Rattle.entry.proofs.tally_flows.Goals as goal

pub retally-requires-clause-callable : goal.retally-requires-clause-callable
retally-requires-clause-callable c = λ f below.
    let facts = c.requires.facts in
    let flow = flow_ok _ facts f below in
    let tally = tally_ok _ facts f below in
    let enters = entered_found _ facts _ c.requires.all_entrants f below in
    let client = entrant_fits _ facts _ _ c.requires.all_entrants _ _ flow.xs_on flow.ys_on in
    let sizes = facts.header in
    let clock = c.requires.clock_below in (
      λ κs ref a b l u s v. ((omega arith, (omega arith, omega arith)), (client, omega arith)),
      λ κs ref a b l u s entered v. ((omega arith, omega arith), λ yes'. enters_has _ f (rw (entered.ensures, enters) at yes')),
    )

pub returns : goal.returns
returns c = retallied _ _ _ _ _ c.retally.ensures
    (λ f t below call.
    let enters = entered_found _ c.requires.facts _ c.requires.all_entrants f below in
    rw (next_tally_lem, ← enters) (search rules))
