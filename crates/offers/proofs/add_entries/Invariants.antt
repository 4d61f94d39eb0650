use mathlib.Core.Path.{◌≡◌}
use lib.ListN.{length}
use Rattle.offers.specs.Inner.{Added}
use Rattle.offers.proofs.add_entries.Given as goal

abbrev pub invariant-loop-k : goal.invariant-loop-k
invariant-loop-k l = (length l.state ≡ length l.initial.state) × Added l.initial.state l.flows l.k l.state
