-- `client_sends`: the definition's own cases.
use Rattle.std.proofs.Common.{◌≡◌, ◌∙◌, sym, ℕ, ◌<◌, Some, None, arith}
use Rattle.flow.specs.declared.Port.TheVariants.{East, South}
use Rattle.flow.specs.Offsets.{port_of}
use Rattle.flow.specs.Plan.{flow_at}
use Rattle.state.specs.State.{State}
use Rattle.state.specs.Read.{count_in, plan_in, state_of}
use Rattle.cycle.specs.Step.{entering}
use Rattle.cycle.specs.Sent.{entering_by}
use Rattle.cycle.proofs.Facts.{flow_ok, tally_ok}
use Rattle.entry.specs.Entrants.{entrant_in}
use Rattle.routing.specs.Sent.{client_sends}
use Rattle.routing.proofs.client_sends.Goals as goal
use Rattle.routing.proofs.client_sends.Goals.{In-Some}

below : (c : goal.In-Some) → c.in-Some.f < count_in c.args.state.now
below c = rw c.in-Some.is at c.requires.0

module _ (s : State) (f : ℕ) where
  by_east : port_of s.plan.sx (flow_at s.plan f) ≡ East → record { east = entering s f; south = None } ≡ client_sends s (entrant_in (Some f))
  unfolding entering_by entrant_in
  by_east port = rw port

  by_south : port_of s.plan.sx (flow_at s.plan f) ≡ South → record { east = None; south = entering s f } ≡ client_sends s (entrant_in (Some f))
  unfolding entering_by entrant_in
  by_south port = rw port

pub returns-in_default : goal.returns-in_default
unfolding entering_by entrant_in
returns-in_default c = rw c.in_default.is

pub overflow_add-packet : goal.overflow_add-packet
overflow_add-packet c =
    let ok = tally_ok _ c.tally.ensures.facts _ (below (goal.at.overflow_add-packet c).In-Some) in
    rw c.tally.ensures.value (omega arith)

pub port-requires-clause-xs_lt_sx : goal.port-requires-clause-xs_lt_sx
port-requires-clause-xs_lt_sx c =
    let ok = flow_ok _ c.flow.ensures.facts _ (below (goal.at.port-requires-clause-xs_lt_sx c).In-Some) in
    rw (c.flow.ensures.value, c.sx.ensures.value) (ok.xs_on, ok.xd_on)

pub returns-in-East : goal.returns-in-East
unfolding state_of plan_in
returns-in-East c =
    rw (c.in-Some.is, c.tally.ensures.value, c.clock.ensures.value)
    (by_east _ _ (rw (c.flow.ensures.value, c.sx.ensures.value) at (sym c.port.ensures ∙ c.in-East.is)))

pub returns-in-South : goal.returns-in-South
unfolding state_of plan_in
returns-in-South c =
    rw (c.in-Some.is, c.tally.ensures.value, c.clock.ensures.value)
    (by_south _ _ (rw (c.flow.ensures.value, c.sx.ensures.value) at (sym c.port.ensures ∙ c.in-South.is)))
