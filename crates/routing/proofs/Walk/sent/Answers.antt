-- `sent`: the definition's own parts, with the client's packet by who enters there.
use Rattle.std.proofs.Common.{◌≡◌, ℕ, ◌<◌, get_or, None}
use Rattle.std.proofs.Math.Option.{Option}
use Rattle.router.specs.Rule.{turns_south, entrant}
use Rattle.state.specs.State.{State, cell_at}
use Rattle.state.specs.Read.{sx_in, sy_in, state_of}
use Rattle.cycle.specs.Seen.{shown, view}
use Rattle.cycle.specs.Sent.{sent_east, sent_south, eastward, southward}
use Rattle.cycle.proofs.Facts.{packet_below, west_flow, north_deflections}
use Rattle.entry.specs.Entrants.{entrant_in}
use Rattle.entry.proofs.Clients.{entrant_most}
use Rattle.routing.specs.Sent.{client_sends, sent_at}
use Rattle.routing.proofs.OnGrid.{entrant_there, entrant_is}
use Rattle.routing.proofs.Walk.sent.Goals as goal
use Rattle.routing.proofs.Walk.sent.Goals.{After-cell-cell, After-router_index}

sent_is : (s : State) (x y : ℕ) (who : Option ℕ) → who ≡ entrant s.plan (view s) x y
    → let west = (cell_at s x y).west in let north = (cell_at s x y).north in let turning = turns_south x (shown s.plan west) in
    record {
      east = sent_east turning west north (client_sends s who).east;
      south = sent_south turning west north (client_sends s who).south;
    }
    ≡ sent_at s x y
unfolding eastward southward
sent_is s x y who e = rw e

on : (c : goal.After-cell-cell) → (c.args.x < sx_in c.self.inside.state.now) × (c.args.y < sy_in c.self.inside.state.now)
on c = rw (← c.self.view_is) at c.requires

who : (c : goal.After-router_index) → let s = state_of c.self.inside.state.now in
    entrant_in (get_or c.self.inside.entrants.now c.router_index.result None) ≡ entrant s.plan (view s) c.args.x c.args.y
who c = let h = on (goal.at.After-router_index c).After-cell-cell in rw c.router_index.ensures.0 (entrant_is c.self.invariant _ _ h.0 h.1)

pub turns_south-turning-requires : goal.turns_south-turning-requires
turns_south-turning-requires c =
    let cell = c.cell-cell.ensures in
    let h = on (goal.at.turns_south-turning-requires c).After-cell-cell in
    packet_below _ (rw cell.value (west_flow _ cell.facts _ _ h.0 h.1))

pub bounds-self-inside-router_index : goal.bounds-self-inside-router_index
bounds-self-inside-router_index c =
    let h = on (goal.at.bounds-self-inside-router_index c).After-cell-cell in
    rw c.router_index.ensures.0 (entrant_there c.self.invariant _ _ h.0 h.1)

pub client_sends-client-requires : goal.client_sends-client-requires
client_sends-client-requires c =
    (entrant_most _ c.cell-cell.ensures.facts _ _ _ (who (goal.at.client_sends-client-requires c).After-router_index), c.self.invariant.entered.clock_below)

pub sent_east-requires : goal.sent_east-requires
sent_east-requires c =
    let cell = c.cell-cell.ensures in
    let h = on (goal.at.sent_east-requires c).After-cell-cell in
    rw cell.value (north_deflections _ cell.facts _ _ h.0 h.1)

pub returns : goal.returns
returns c =
    rw (c.sent_south.ensures, c.sent_east.ensures, c.client_sends-client.ensures, c.turns_south-turning.ensures, c.cell-cell.ensures.value, ← c.self.view_is)
    (sent_is _ _ _ _ (who (goal.at.returns c).After-router_index))
