-- Bounds that inner functions ask for and promise. No call's promise names these.
use Rattle.std.specs.Prelude.{ℕ, ◌*◌}
use Rattle.flow.specs.Plan.{most_size}
use Rattle.state.specs.Register.{Register}
use Rattle.std.specs.Prelude.{Some, None}

-- the routers of the largest torus
abbrev pub most_routers : ℕ
most_routers = most_size * most_size

-- the number of the flow whose packet it is, where it holds one
abbrev pub flow_of : Register → ℕ
flow_of None = 0
flow_of (Some packet) = packet.flow
