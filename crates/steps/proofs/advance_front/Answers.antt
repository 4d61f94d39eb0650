-- `advance_front`: the steps on the front of the delivery memory, with room of their own. Rests on Front.
use mathlib.Core.Path.{◌≡◌}
use Prim.Native.Nat.{min}
use native.Mathlib.Omega.{arith}
use lib.ListN.{length}
use lib.Seq.{length-take-le}
use Rattle.std.proofs.Common.{rules}
use Rattle.flow.specs.Limits.{most_delivered}
use Rattle.state.specs.Read.{state_of}
use Rattle.state.proofs.Forms.{state_facts}
use Rattle.cycle.specs.Progress.{progress, Reached}
use Rattle.steps.specs.Loop.{Checked, Rooms}
use Rattle.steps.proofs.Behind.{rooms_of}
use Rattle.steps.proofs.Front.{front_reached}
use Rattle.steps.proofs.advance_front.Goals as goal

pub with_room-requires-clause-facts : goal.with_room-requires-clause-facts
with_room-requires-clause-facts c = state_facts _ c.requires

pub with_room-requires-clause-callable : goal.with_room-requires-clause-callable
unfolding most_delivered
with_room-requires-clause-callable c s b e g hs hb room =
    let used : c.min-used.result ≡ min (length c.args.delivery.now) most_delivered = c.min-used.ensures in
    let long = length-take-le c.min-used.result c.args.delivery.now (omega arith) in
    let checked : Checked s.now b.now = rw (hs, hb) (record { formed = c.requires; delivery_most = omega arith }) in
    let rooms : Rooms s.now e.now g.now = rw hs (rooms_of _ _ _ room) in
    search rules

pub returns : goal.returns
unfolding most_delivered
returns c =
    let used : c.min-used.result ≡ min (length c.args.delivery.now) most_delivered = c.min-used.ensures in
    let w = c.with_room.ensures in
    let r : Reached w.state.now w.memory.now (progress (length w.memory.now) (state_of w.state.now) c.args.cycles) c.with_room.result w.state_after.now w.memory_after.now =
    search rules in
    front_reached _ _ _ _ _ _ used c.requires _ (rw (w.before.0, w.before.1, w.after.0, w.after.1) at r)
