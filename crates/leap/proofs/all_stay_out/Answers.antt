-- `all_stay_out`: flow by flow.
use mathlib.Core.Path.{◌≡◌}
use Prim.Native.Nat.{ℕ, ◌+◌, ◌≤◌}
use native.Mathlib.Omega.{arith}
use Rattle.flow.specs.Plan.{flow_at}
use Rattle.state.specs.State.{State, tally_at}
use Rattle.state.specs.Read.{count_in, state_of}
use Rattle.cycle.proofs.Facts.{tally_ok}
use Rattle.leap.specs.Leap.{StaysOut, AllStayOut}
use Rattle.leap.proofs.Idle.{all_less}
use Rattle.leap.proofs.Words.{one_more}
use Rattle.leap.proofs.all_stay_out.Goals as goal

all_more : (k : ℕ) (s : State) (n : ℕ) → AllStayOut k s n → StaysOut k (flow_at s.plan n) (tally_at s n) → AllStayOut k s (n + 1)
all_more k s n all here = one_more n all here

pub loop-f-init : goal.loop-f-init
loop-f-init c = (omega arith, λ f l. absurd (omega arith))

pub stays_out-k-requires : goal.stays_out-k-requires
stays_out-k-requires c =
    let ok = tally_ok _ c.flow.ensures.facts c.loop-f.f (omega arith) in
    rw (c.tally.ensures.value, c.flow.ensures.value) ok.count_below

pub returns-then-k-eq0 : goal.returns-then-k-eq0
returns-then-k-eq0 c = (omega arith, λ h. absurd (omega arith))

pub loop-f-preserved : goal.loop-f-preserved
loop-f-preserved c =
    let s = state_of c.args.state.now in
    let k = c.stays_out-k.result in
    let f = c.loop-f.f in
    let old = c.loop-f.invariant in
    let some : 1 ≤ k = omega (arith, c.if-k-eq0.false) in
    let here = rw (c.tally.ensures.value, c.flow.ensures.value) at (c.stays_out-k.ensures.1 some) in (
      omega (arith, c.stays_out-k.ensures.0, old.0),
      all_more k s f (all_less _ k s f c.stays_out-k.ensures.0 old.1) here,
    )

pub returns : goal.returns
returns c =
    let e : c.loop-f.f ≡ count_in c.args.state.now = omega arith in
    (c.loop-f.invariant.0, λ some. rw e at c.loop-f.invariant.1)
