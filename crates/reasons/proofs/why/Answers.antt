-- `why`: the tests of rule 3, then the word at the flow's client. Rests on Turn.
use Rattle.std.proofs.Common.{sym, ◌∙◌}
use mathlib.Core.Bool.{true, false}
use mathlib.Core.Path.{◌≡◌, ap, subst}
use native.Mathlib.Omega.{arith}
use Rattle.router.specs.declared.Reason.{Reason}
use Rattle.router.specs.declared.Reason.TheVariants.{Entered, LowerEntered}
use Rattle.router.proofs.Reasons.{closed_by}
use Rattle.cycle.proofs.Facts.{flow_ok}
use Rattle.entry.proofs.Clients.{entrant_fits}
use Rattle.reasons.proofs.Turn.{Turn, turn_nothing, turn_no_token, turn_closed, turn_word}
use Rattle.reasons.proofs.why.Goals as goal
use Rattle.reasons.proofs.why.Goals.{After-entered, After-port}

pub returns-then-t-lt1 : goal.returns-then-t-lt1
returns-then-t-lt1 c =
    turn_nothing _ c.tally-t.ensures.facts _ c.requires.f_below _ c.tally-t.ensures.value _ c.requires.entrants c.if-t-lt1.true

pub returns-then-t-lt1-2 : goal.returns-then-t-lt1-2
returns-then-t-lt1-2 c =
    turn_no_token _ c.tally-t.ensures.facts _ c.requires.f_below _ c.tally-t.ensures.value _ c.requires.entrants c.if-t-lt1.false c.if-t-lt1-2.true

pub port_open-requires : goal.port_open-requires
port_open-requires c = rw c.flow-flow.ensures.value (flow_ok _ c.tally-t.ensures.facts _ c.requires.f_below)

pub port-requires : goal.port-requires
port-requires c =
    let ok = flow_ok _ c.tally-t.ensures.facts _ c.requires.f_below in
    let sizes = c.tally-t.ensures.facts.header in
    rw (c.flow-flow.ensures.value, c.sx.ensures.value) (record { xs_lt_sx = omega arith; sx_le_most_size = omega arith })

-- a closed port, by the case of the match
abbrev Told : goal.After-port → Reason → Type 0
Told c r = let a = c.args in Turn a.state.now a.f r a.entrants.now

closed : (c : goal.After-port) → Told c (closed_by c.port.result)
closed c =
    turn_closed _ c.tally-t.ensures.facts _ c.requires.f_below _ c.tally-t.ensures.value c.if-t-lt1.false c.if-t-lt1-2.false _ c.flow-flow.ensures.value
    _ c.requires.entrants (sym c.port_open.ensures ∙ c.if-not-port_open.true) _ (rw c.sx.ensures.value at c.port.ensures)

pub returns-in-East : goal.returns-in-East
returns-in-East c =
    let port = (goal.at.returns-in-East c).After-port in
    subst (Told port) (ap closed_by c.in-East.is) (closed port)

pub returns-in-South : goal.returns-in-South
returns-in-South c =
    let port = (goal.at.returns-in-South c).After-port in
    subst (Told port) (ap closed_by c.in-South.is) (closed port)

pub entered-requires : goal.entered-requires
entered-requires c =
    let ok = flow_ok _ c.tally-t.ensures.facts _ c.requires.f_below in
    let sizes = c.tally-t.ensures.facts.header in
    let few = c.requires.f_below in
    rw (c.flow-flow.ensures.value, c.sx-2.ensures.value)
    (record {
      sx_le_most_size = omega arith;
      ys_in_bounds = (entrant_fits _ c.tally-t.ensures.facts _ _ c.enter.ensures _ _ ok.xs_on ok.ys_on, omega arith);
    })

by_word : (c : goal.After-entered) → let a = c.args in let l = c.enter.new.entrants in
    (c.entered.result ≡ true → Turn a.state.now a.f Entered l) × (c.entered.result ≡ false → Turn a.state.now a.f LowerEntered l)
by_word c =
    turn_word _ c.tally-t.ensures.facts _ c.requires.f_below _ c.tally-t.ensures.value c.if-t-lt1.false c.if-t-lt1-2.false _ c.flow-flow.ensures.value
    (sym c.port_open.ensures ∙ c.if-not-port_open.false) _ c.enter.ensures _ (rw c.sx-2.ensures.value at c.entered.ensures)

pub returns-then-entered : goal.returns-then-entered
returns-then-entered c =
    (by_word (goal.at.returns-then-entered c).After-entered).0 c.if-entered.true

pub returns-else-entered : goal.returns-else-entered
returns-else-entered c =
    (by_word (goal.at.returns-else-entered c).After-entered).1 c.if-entered.false
