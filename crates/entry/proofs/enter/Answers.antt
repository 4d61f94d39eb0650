-- `enter`: the flow's client is among the entrants. Rests on Entrant and Clients.
use Rattle.std.proofs.Common.{◌∙◌, sym, ◌<◌, length, arith}
use Rattle.cycle.proofs.Facts.{flow_ok}
use Rattle.entry.proofs.Entrant.{entrants_unready}
use Rattle.entry.proofs.Clients.{client_fits, client_marked}
use Rattle.entry.proofs.enter.Goals as goal
use Rattle.entry.proofs.enter.Goals.{After-router_index-client}

pub router_index-client-requires : goal.router_index-client-requires
router_index-client-requires c =
    let flow = c.flow-flow.ensures in
    let ok = flow_ok _ flow.facts _ c.requires.f_below in
    let sizes = flow.facts.header in
    rw (c.sx.ensures.value, flow.value) (omega arith)

fits : (c : goal.After-router_index-client) → c.router_index-client.result < length c.args.entrants.now
fits c =
    client_fits _ c.flow-flow.ensures.facts _ c.requires.f_below _ c.requires.entrants _ c.flow-flow.ensures.value _
    (rw (← c.sx.ensures.value) c.router_index-client.ensures.0)

pub bounds-entrants-client : goal.bounds-entrants-client
bounds-entrants-client c = fits (goal.at.bounds-entrants-client c).After-router_index-client

pub returns-then-ready : goal.returns-then-ready
returns-then-ready c =
    rw c.or.ensures
    (client_marked _ c.flow-flow.ensures.facts _ c.requires.f_below _ c.requires.entrants _ c.flow-flow.ensures.value _
    (rw (← c.sx.ensures.value) c.router_index-client.ensures.0) (sym c.ready.ensures ∙ c.if-ready.true))

pub returns-else-ready : goal.returns-else-ready
returns-else-ready c = entrants_unready _ _ _ (sym c.ready.ensures ∙ c.if-ready.false) c.requires.entrants
