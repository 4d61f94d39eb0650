-- What a router and its client send by the two outputs, as one value. Only promises of inner functions name these.
use Rattle.std.specs.Prelude.{Bool, true, false, ◌&&◌, ℕ}
use Rattle.std.specs.Prelude as Prelude
use Rattle.std.proofs.Math.Option.{Option, none, some}
use Rattle.flow.specs.declared.Port.TheVariants.{East, South}
use Rattle.router.specs.Rule.{entrant}
use Rattle.state.specs.State.{State, cell_at}
use Rattle.cycle.specs.Seen.{view}
use Rattle.cycle.specs.Sent.{entering_by, eastward, southward}
use Rattle.routing.specs.declared.Sent.{Sent}

-- a client, by the flow that enters there
abbrev pub client_sends : State → (who : Option ℕ) → Sent
client_sends s who = record { east = entering_by s East who; south = entering_by s South who }

-- the router in column x and row y
abbrev pub sent_at : State → (x y : ℕ) → Sent
sent_at s x y = record { east = eastward s x y; south = southward s x y }

abbrev pub nobody : Option ℕ → Bool
nobody none = true
nobody (some f) = false

-- no packet stands at the router in column x and row y, nor enters there
abbrev pub is_idle : State → (x y : ℕ) → Bool
is_idle s x y = nobody (entrant s.plan (view s) x y) && Prelude.is_none (cell_at s x y).west && Prelude.is_none (cell_at s x y).north
