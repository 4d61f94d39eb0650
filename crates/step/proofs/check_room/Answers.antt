-- `check_room`: the definition's own tests.
use borrow.Author.Tests.{lt-ltb, le-ltb, eq-eqb, ne_eqb}
use Rattle.state.specs.Read.{plan_in, state_of}
use Rattle.flow.specs.Limits.{step_number}
use Rattle.step.proofs.check_room.Goals as goal

pub returns-then-room-routers : goal.returns-then-room-routers
unfolding step_number state_of plan_in
returns-then-room-routers c = rw (lt-ltb _ _ (rw (c.sx.ensures.value, c.sy.ensures.value) at c.if-room-routers.true))

pub returns-then-clock-eq-LAST_CLOCK : goal.returns-then-clock-eq-LAST_CLOCK
unfolding step_number state_of plan_in
returns-then-clock-eq-LAST_CLOCK c =
    rw (le-ltb _ _ (rw (c.sx.ensures.value, c.sy.ensures.value) at c.if-room-routers.false), eq-eqb _ _ (rw c.clock.ensures.value at c.if-clock-eq-LAST_CLOCK.true))

pub returns : goal.returns
unfolding step_number state_of plan_in
returns c =
    rw (le-ltb _ _ (rw (c.sx.ensures.value, c.sy.ensures.value) at c.if-room-routers.false), ne_eqb _ _ (rw c.clock.ensures.value at c.if-clock-eq-LAST_CLOCK.false))
