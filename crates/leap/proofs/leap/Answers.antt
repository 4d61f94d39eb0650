-- `leap`: nothing in flight, and how long no flow enters. Rests on Words.
use mathlib.Core.List.{List}
use Prim.Native.Nat.{ℕ, ◌+◌, ◌<◌}
use mathlib.Core.Path.{◌≡◌, ◌∙◌}
use native.Mathlib.Omega.{arith}
use Rattle.flow.specs.Limits.{last_clock}
use Rattle.state.specs.Read.{count_in, clock_in, state_of}
use Rattle.state.proofs.View.{counted}
use Rattle.leap.specs.Leap.{AllStayOut, Vacant, Idle}
use Rattle.leap.proofs.Words.{leapt_none, leap_over}
use Rattle.leap.proofs.leap.Goals as goal
use Rattle.leap.proofs.leap.Goals.{After-clock-clock}

idle_by : (w : List ℕ) (k : ℕ) → Vacant (state_of w) → AllStayOut k (state_of w) (count_in w) → Idle k (state_of w)
idle_by w k vacant all = record { vacant = vacant; out = λ f l. all f (rw (counted w) at l) }

-- the clock that was read is the state's, and not past the last
clock : (c : goal.After-clock-clock) → c.clock-clock.result ≡ clock_in c.args.state.now
clock c = rw c.of-now.ensures at c.clock-clock.ensures.value

fits : (c : goal.After-clock-clock) → clock_in c.args.state.now < last_clock + 1
fits c = omega (arith, clock c)

pub returns-then-not-is_vacant : goal.returns-then-not-is_vacant
returns-then-not-is_vacant c = leapt_none _ _ (fits (goal.at.returns-then-not-is_vacant c).After-clock-clock)

pub returns-then-k-eq0 : goal.returns-then-k-eq0
returns-then-k-eq0 c = leapt_none _ _ (fits (goal.at.returns-then-k-eq0 c).After-clock-clock)

pub overflow_add-clock : goal.overflow_add-clock
overflow_add-clock c = omega (arith, c.all_stay_out-k.ensures.0, c.min.ensures)

pub returns : goal.returns
returns c =
    let w = c.args.state.now in
    let k = c.all_stay_out-k.result in
    let t = clock (goal.at.returns c).After-clock-clock in
    record {
      within = omega (arith, c.all_stay_out-k.ensures.0, c.min.ensures);
      clock_most = omega (arith, c.all_stay_out-k.ensures.0, c.min.ensures);
      stays = λ e. absurd (c.if-k-eq0.false e);
      idle = λ some. idle_by w k (rw c.of-now.ensures at (c.is_vacant.ensures c.if-not-is_vacant.false)) (rw c.of-now.ensures at (c.all_stay_out-k.ensures.1 some));
      leaps = λ some. c.put_clock.ensures ∙ rw (c.pass_flows.ensures, t) (leap_over w c.requires k);
    }
