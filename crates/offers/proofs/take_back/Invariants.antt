use mathlib.Core.List.{List}
use mathlib.Core.Path.{◌≡◌}
use Prim.Native.Nat.{ℕ, ◌<◌}
use lib.ListN.{length, get_or}
use Rattle.offers.specs.Inner.{Added}
use Rattle.offers.proofs.take_back.Given as goal

abbrev pub invariant-loop-f : goal.invariant-loop-f
invariant-loop-f l =
    let rest = l.f-iterator.iter.rest.now in
    (length l.state ≡ length l.initial.state) × (((j : ℕ) → j < length rest → get_or rest j 0 ≡ get_or l.flows j 0)
    × ((before : List ℕ) → Added before l.flows l.n l.initial.state → Added before l.flows (length rest) l.state))
