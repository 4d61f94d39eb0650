-- `port_open`: the rule's own cases, of the registers at the flow's client.
use Rattle.std.proofs.Common.{◌≡◌, ◌∙◌, sym, not, ◌&&◌, is_none}
use Rattle.flow.specs.declared.Flow.{Flow}
use Rattle.flow.specs.declared.Port.TheVariants.{East, South}
use Rattle.flow.specs.Offsets.{port_of}
use Rattle.router.specs.Rule.{turns_south, is_open}
use Rattle.state.specs.declared.Cell.{Cell}
use Rattle.state.specs.State.{State, cell_at}
use Rattle.state.specs.Read.{plan_in, state_of}
use Rattle.cycle.specs.Seen.{shown}
use Rattle.cycle.proofs.Facts.{west_flow, packet_below}
use Rattle.cycle.proofs.Sent.{shows_none, none_is}
use Rattle.entry.specs.Entrants.{port_open}
use Rattle.entry.proofs.port_open.Goals as goal
use Rattle.entry.proofs.port_open.Goals.{In-East, In-South}

module _ (s : State) (f : Flow) (c : Cell) (cell : c ≡ cell_at s f.xs f.ys) where
  open_east : port_of s.plan.sx f ≡ East → port_open s f ≡ is_none c.west
  unfolding port_open is_open
  open_east port = rw (port, cell) (shows_none s.plan (cell_at s f.xs f.ys).west)

  open_south : port_of s.plan.sx f ≡ South → port_open s f ≡ is_none c.north && not (turns_south f.xs (shown s.plan c.west))
  unfolding port_open is_open
  open_south port = rw (port, cell, shows_none s.plan (cell_at s f.xs f.ys).north)

south : (c : goal.In-South) → let a = c.args in let cell = c.cell-cell.result in
    port_open (state_of a.state.now) a.flow ≡ is_none cell.north && not (turns_south a.flow.xs (shown (state_of a.state.now).plan cell.west))
unfolding state_of plan_in
south c = open_south _ _ _ c.cell-cell.ensures.value (rw c.sx.ensures.value at (sym c.port.ensures ∙ c.in-South.is))

pub turns_south-requires : goal.turns_south-requires
turns_south-requires c =
    let cell = c.cell-cell.ensures in
    packet_below _ (rw cell.value (west_flow _ cell.facts _ _ c.requires.xs_on c.requires.ys_on))

pub returns-in-East : goal.returns-in-East
unfolding state_of plan_in
returns-in-East c =
    sym (open_east _ _ _ c.cell-cell.ensures.value (rw c.sx.ensures.value at (sym c.port.ensures ∙ c.in-East.is)) ∙ none_is _ _ c.is_none.ensures)

pub returns-then-is_none : goal.returns-then-is_none
returns-then-is_none c =
    rw (south (goal.at.returns-then-is_none c).In-South, none_is _ _ c.is_none-in-South.ensures, c.if-is_none.true, ← c.turns_south.ensures)

pub returns-else-is_none : goal.returns-else-is_none
returns-else-is_none c =
    rw (south (goal.at.returns-else-is_none c).In-South, none_is _ _ c.is_none-in-South.ensures, c.if-is_none.false)
