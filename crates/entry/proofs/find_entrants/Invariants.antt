-- `find_entrants`: turn by turn.
use Rattle.std.proofs.Common.{◌≡◌, ◌≤◌, length}
use Rattle.state.specs.Read.{count_in, state_of}
use Rattle.entry.specs.Entrants.{Entrants}
use Rattle.entry.proofs.find_entrants.Given as goal

abbrev pub invariant-loop-f : goal.invariant-loop-f
invariant-loop-f l = (l.f ≤ count_in l.state) × ((length l.entrants ≡ length l.initial.entrants) × Entrants (state_of l.state) l.f l.entrants)
