-- `store_next`: the registers so far.
use mathlib.Core.Path.{◌≡◌}
use Prim.Native.Nat.{◌*◌}
use lib.ListN.{length, take}
use lib.Seq.{sets}
use Rattle.state.specs.Layout.{router_size}
use Rattle.step.proofs.store_next.Given as goal

abbrev pub invariant-loop-i : goal.invariant-loop-i
invariant-loop-i l =
    (length l.state ≡ length l.initial.state)
    × (l.state ≡ sets l.initial.state l.place (take l.i (take (router_size * l.routers) l.registers)))
