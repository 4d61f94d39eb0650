-- Deliveries as five-word groups, and which of them a plan can't have delivered (02, U1).
use Rattle.std.specs.Prelude.{Bool, not, ◌&&◌, ◌||◌, List, ℕ, ◌+◌, ◌*◌, ◌/◌, ltb, leb, eqb, length, get_or}
use Rattle.laws.specs.Bounded.{tabulate}
use Rattle.flow.specs.declared.Flow.{Flow}
use Rattle.flow.specs.Offsets.{ΔY}
use Rattle.flow.specs.Plan.{Plan, flow_at}
use Rattle.flow.specs.Limits.{exit_size}
use Rattle.flight.specs.Flight.{flight, flight_of}
use Rattle.router.specs.Delivery.{Delivery, delivery_with}

-- group i: flow, serial, entry cycle, exit cycle, D
abbrev pub group_at : List ℕ → ℕ → Delivery
group_at w i =
    let at : ℕ = exit_size * i in
    delivery_with (get_or w at 0) (get_or w (at + 1) 0) (get_or w (at + 2) 0) (get_or w (at + 3) 0) (get_or w (at + 4) 0)

-- deliveries are five-word groups; a broken last group isn't read
unfoldable pub groups_of : List ℕ → List Delivery
groups_of w = tabulate (length w / exit_size) (group_at w)

-- with D over ΔY or a flight other than ΔX+ΔY+D×Sx+2; flight is exit − entry + 2, and under 2 where the exit is before the entry
unfoldable pub impossible : (sx sy : ℕ) → Flow → (entry exit D : ℕ) → Bool
impossible sx sy f entry exit D =
    ltb (ΔY sy f) D || not (leb entry exit && eqb (flight entry exit) (flight_of sx sy f D))

-- a delivery of no flow in the plan, or impossible for its flow
unfoldable pub strange : Plan → Delivery → Bool
strange p d =
    leb (length p.flows) d.flow || impossible p.sx p.sy (flow_at p d.flow) d.entry d.exit d.D
