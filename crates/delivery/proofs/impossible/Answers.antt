-- `impossible`: the definition's own tests, without the 2 on both sides.
use mathlib.Core.Path.{◌≡◌}
use Prim.Native.Nat.{ℕ, ◌+◌, ◌*◌, ◌≤◌}
use native.Mathlib.Omega.{arith}
use borrow.Author.Tests.{lt-ltb}
use Rattle.flow.specs.declared.Flow.{Flow}
use Rattle.flow.specs.declared.Torus.{Torus}
use Rattle.flow.specs.Offsets.{ΔX, ΔY}
use Rattle.flow.specs.Ranges.{FlowOk}
use Rattle.flight.proofs.Flight.{most_flight, flight_most}
use Rattle.delivery.specs.Groups.{impossible}
use Rattle.delivery.proofs.Groups.{by_time}
use Rattle.delivery.proofs.impossible.Goals as goal

pub returns-then-dy-d : goal.returns-then-dy-d
unfolding impossible
returns-then-dy-d c = rw (← c.offset_y-dy.ensures, lt-ltb _ _ c.if-dy-d.true)

-- the sum is that of a flight
short : (t : Torus) (f : Flow) (D x y : ℕ) → FlowOk t.sx t.sy f → x ≡ ΔX t.sx f → y ≡ ΔY t.sy f → D ≤ y
    → x + y + D * t.sx + 2 ≤ most_flight
short t f D x y fits east south few =
    rw (east, south) (flight_most t.sx t.sy f D fits t.sized.0 t.sized.1 (rw (← south) few))

pub overflow_add-offset_x : goal.overflow_add-offset_x
overflow_add-offset_x c = omega (arith, short c.args.torus _ _ _ _ c.requires c.offset_x.ensures c.offset_y-dy.ensures c.if-dy-d.false)

pub overflow_mul-d : goal.overflow_mul-d
overflow_mul-d c = omega (arith, short c.args.torus _ _ _ _ c.requires c.offset_x.ensures c.offset_y-dy.ensures c.if-dy-d.false)

pub overflow_add-offset_x-else-dy-d : goal.overflow_add-offset_x-else-dy-d
overflow_add-offset_x-else-dy-d c = omega (arith, short c.args.torus _ _ _ _ c.requires c.offset_x.ensures c.offset_y-dy.ensures c.if-dy-d.false)

pub returns-else-dy-d : goal.returns-else-dy-d
returns-else-dy-d c =
    let a = c.args in
    rw (c.ne.ensures, c.offset_y-dy.ensures, c.offset_x.ensures)
    (by_time a.torus.sx a.torus.sy a.f a.d.entry a.d.exit a.d.deflections _ (rw (← c.offset_y-dy.ensures) c.if-dy-d.false) c.checked_sub.ensures)
