-- What a router sends, as the code decides it: whether W goes S, then whether what goes S exits. Only promises of inner functions name
-- these; proofs/Sent ties them to the definitions of Step.
use Rattle.std.specs.Prelude.{Bool, false, cond, ℕ, Some, None}
use Rattle.std.specs.Option.{option_or}
use Rattle.std.proofs.Math.Option.{Option, none, some}
use Rattle.flow.specs.declared.Port.{Port}
use Rattle.flow.specs.declared.Port.TheVariants.{East, South}
use Rattle.flow.specs.Offsets.{port_of, same_port}
use Rattle.flow.specs.Plan.{Plan, flow_at}
use Rattle.router.specs.Rule.{turns_south, at_home, entrant}
use Rattle.state.specs.Register.{Register}
use Rattle.state.specs.State.{State, cell_at}
use Rattle.cycle.specs.Seen.{shown, view}
use Rattle.cycle.specs.Step.{deflected, entering}

-- the deflections of a register's packet, where it holds one
abbrev pub deflections_of : Register → ℕ
deflections_of None = 0
deflections_of (Some packet) = packet.deflections

-- what goes E and what goes S, by whether the W packet goes S
abbrev pub sent_east : (turning : Bool) → (west north client : Register) → Register
sent_east turning west north client = cond turning (deflected north) (option_or west client)

abbrev pub sent_south : (turning : Bool) → (west north client : Register) → Register
sent_south turning west north client = cond turning west (option_or north client)

-- the packet that enters by a port, by the flow that enters there
unfoldable pub entering_by : State → Port → Option ℕ → Register
entering_by s port none = None
entering_by s port (some f) = cond (same_port (port_of s.plan.sx (flow_at s.plan f)) port) (entering s f) None

-- what the router in column x and row y sends E, and what it sends S or delivers
unfoldable pub eastward : State → (x y : ℕ) → Register
eastward s x y =
    sent_east (turns_south x (shown s.plan (cell_at s x y).west)) (cell_at s x y).west (cell_at s x y).north
    (entering_by s East (entrant s.plan (view s) x y))

unfoldable pub southward : State → (x y : ℕ) → Register
southward s x y =
    sent_south (turns_south x (shown s.plan (cell_at s x y).west)) (cell_at s x y).west (cell_at s x y).north
    (entering_by s South (entrant s.plan (view s) x y))

-- a packet that goes S from the router in column x and row y exits there
unfoldable pub exits : Plan → (x y : ℕ) → Register → Bool
exits p x y None = false
exits p x y (Some packet) = at_home x y (flow_at p packet.flow)
