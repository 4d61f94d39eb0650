-- `route_row`: router by router. Rests on the laws of walks.
use Rattle.std.proofs.Common.{◌≡◌, ◌∙◌, sym, ap, ◌<◌, length, arith}
use Rattle.state.specs.Read.{sx_in}
use Rattle.output.specs.declared.Grid.{Grid}
use Rattle.routing.specs.Walk.{pushed_row, row_delivers}
use Rattle.routing.proofs.Idle.{idle_delivers, passed_idle, passed_busy}
use Rattle.routing.proofs.Exits.{walked_none, walked_more, walked_quiet, row_room}
use Rattle.routing.proofs.Walk.route_row.Goals as goal
use Rattle.routing.proofs.Walk.route_row.Goals.{In-loop-x}

-- the router's column is one of the state's
below : (c : goal.In-loop-x) → c.loop-x.x < sx_in c.args.self.now
below c = rw (rw c.self.view_is at c.self.invariant).grid at c.loop-x-test.true

pub loop-x-init : goal.loop-x-init
loop-x-init c = (omega arith, walked_none _ _ _ _)

pub route-done-requires-clause-exit_room : goal.route-done-requires-clause-exit_room
route-done-requires-clause-exit_room c = row_room _ _ _ _ _ _ _ _ _ c.loop-x.invariant.1 c.requires.exit_room (below (goal.at.route-done-requires-clause-exit_room c).In-loop-x)

pub loop-x-preserved : goal.loop-x-preserved
loop-x-preserved c =
    let walked = c.loop-x.invariant.1 in (
      omega (arith, below (goal.at.loop-x-preserved c).In-loop-x),
      elim c.if-not-is_idle.branch [
        | goal.then-not-is_idle w ↦
            let busy = (sym c.is_idle.ensures ∙ w.if-not-is_idle.true) in
            let sent = w.route-done.ensures in
            let next = w.next-is ∙ sent.next_after ∙ sym (passed_busy _ _ _ _ busy) in
            let long = ap length w.next-is ∙ w.route-done.auto.next in
            walked_more _ _ _ _ _ _ _ _ walked _ _ _ next long (w.done-is ∙ sent.value) (w.delivery-is ∙ sent.delivery_after)
        | goal.else-not-is_idle w ↦
            let idle = (sym c.is_idle.ensures ∙ w.if-not-is_idle.false) in
            let next = w.next-is ∙ sym (passed_idle _ _ _ _ idle) in
            walked_quiet _ _ _ _ _ _ _ _ walked _ _ _ next (ap length w.next-is) (idle_delivers _ _ _ idle) w.done-is w.delivery-is
      ],
    )

pub returns : goal.returns
unfolding pushed_row row_delivers
returns c =
    let grid = ap (λ (g : Grid). g.sx) (rw c.self.view_is at c.self.invariant).grid in
    let last : c.loop-x.x ≡ sx_in c.args.self.now = omega arith in
    let walked = rw last at c.loop-x.invariant.1 in
    record { next_after = walked.next_is; value = walked.done_is; delivery_after = walked.delivery_is }
