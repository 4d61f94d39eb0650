-- `burst_in`: flow by flow, from none; rates that fill the link leave no window, and all rivals together make I(t).
use mathlib.Core.Path.{◌≡◌, sym, ◌∙◌}
use Prim.Native.Nat.{◌+◌, ◌≤◌}
use borrow.Author.Tests.{leb-true}
use native.Mathlib.Omega.{arith}
use lib.ListN.{length}
use Rattle.flow.specs.Ranges.{PlanOk}
use Rattle.file.specs.Layout.{plan_of}
use Rattle.plan.proofs.Ranges.{plan_count}
use Rattle.window.proofs.Gathered.{among_none, burst_filled, burst_all}
use Rattle.bounds.proofs.Opened.{few, flow_fits_lem}
use Rattle.bounds.proofs.Bounds.burst_in.Goals as goal

pub port-port-requires : goal.port-port-requires
port-port-requires g c =
    let file = c.args.self.now in
    let ok : PlanOk (plan_of file) = rw c.self.view_is at c.self.invariant.0 in
    let own = flow_fits_lem file ok _ c.requires.flow in
    rw (c.torus.ensures.plan.0, c.flow-own.ensures, c.self.view_is)
    (record { xs_lt_sx = (own.xs_on, own.xd_on); sx_le_most_size = ok.sx_most })

pub loop-g-init : goal.loop-g-init
loop-g-init g c = rw c.new-rivals.ensures (among_none _ _)

pub meet-requires : goal.meet-requires
meet-requires g c =
    let read = rw c.self.view_is at c.trailer-g-end.ensures.value in
    let own = rw c.self.view_is at c.flow-own.ensures in (
      omega arith,
      (
        (c.requires.flow, rw read at c.loop-g-test.true),
        (c.requires.room, ((own, rw (← (rw c.self.view_is at c.torus.ensures.plan.0)) c.port-port.ensures), c.loop-g.invariant)),
      ),
    )

pub returns-then-fills_link : goal.returns-then-fills_link
returns-then-fills_link g c =
    let count = plan_count c.args.self.now in
    let read = rw c.self.view_is at c.trailer-g-end.ensures.value in
    let most : c.loop-g.g + 1 ≤ length (plan_of c.args.self.now).flows = omega (arith, rw read at c.loop-g-test.true) in
    sym (burst_filled _ _ _ _ c.meet.ensures _ c.requires.packets.0 most (leb-true _ _ (sym c.fills_link.ensures ∙ c.if-fills_link.true)))

pub least_burst-requires : goal.least_burst-requires
least_burst-requires g c =
    let among = c.loop-g.invariant in
    let read = rw c.self.view_is at c.trailer-g-end.ensures.value in
    let most = rw c.self.view_is at (few _ c.self.invariant.0) in
    (omega arith, ((omega (arith, among.few, most, rw read at c.loop-g.auto.g-end), among.ok), c.requires.packets))

pub returns : goal.returns
returns g c =
    let count = plan_count c.args.self.now in
    let read = rw c.self.view_is at c.trailer-g-end.ensures.value in
    let all : c.loop-g.g ≡ length (plan_of c.args.self.now).flows = omega (arith, rw read at c.loop-g-test.false, rw read at c.loop-g.auto.g-end) in
    c.least_burst.ensures ∙ burst_all _ _ _ _ (rw all at c.loop-g.invariant)
