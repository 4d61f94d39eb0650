-- What a state feeds the routing rule: its registers, waiting packets and tokens (01, One cycle, rules 1 to 3).
use Rattle.std.specs.Prelude.{Bool, ℕ, ltb}
use Rattle.std.proofs.Math.Option.{Option, none, some}
use Rattle.flow.specs.declared.Flow.{Flow}
use Rattle.flow.specs.Plan.{Plan, flow_at}
use Rattle.router.specs.Rule.{Seen, View}
use Rattle.router.specs.Rule as Rule
use Rattle.state.specs.Register.{Register}
use Rattle.std.specs.Prelude.{Some, None}
use Rattle.state.specs.State.{State, tally_at, cell_at}

-- the flow of the packet in a register, where there is one
abbrev pub shown : Plan → Register → Option Flow
shown p None = none
shown p (Some packet) = some (flow_at p packet.flow)

-- what the router in column x and row y sees
abbrev pub seen : State → (x y : ℕ) → Seen
seen s x y =
    record { west = shown s.plan (cell_at s x y).west; north = shown s.plan (cell_at s x y).north }

-- what rule 3 is fed
abbrev pub view : State → View
view s =
    record { waits = λ f. ltb 0 (tally_at s f).waiting; token = λ f. ltb 0 (tally_at s f).bucket.tokens; seen = seen s }

-- rule 3 for flow number f
unfoldable pub enters : State → ℕ → Bool
enters s f = Rule.enters s.plan (view s) f
