-- `demand_of`: the sum so far is what the rivals passed add.
use mathlib.Core.Path.{◌≡◌}
use lib.ListN.{take}
use Rattle.window.specs.Rivals.{demand_of}
use Rattle.window.proofs.demand_of.Given as goal

abbrev pub invariant-loop-rival : goal.invariant-loop-rival
invariant-loop-rival l = l.sum ≡ demand_of (take l.rival-index l.rivals) l.t
