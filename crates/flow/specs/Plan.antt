-- A plan: the torus sizes and the flows, and the limits of its numbers (01, Torus and plan file).
use Rattle.std.specs.Prelude.{Bool, ◌&&◌, List, ℕ, ltb, get_or}
use Rattle.flow.specs.declared.Flow.{Flow}

pub record Plan : Type 0 where
  pub sx : ℕ
  pub sy : ℕ
  pub flows : List Flow

-- the flow with these six plan numbers, in record order
abbrev pub flow_with : (xs ys xd yd P σ : ℕ) → Flow
flow_with xs ys xd yd P σ = record { xs = xs; ys = ys; xd = xd; yd = yd; period = P; burst = σ }

-- a flow of no plan, where a number past the last flow is asked for
abbrev pub no_flow : Flow
no_flow = flow_with 0 0 0 0 0 0

-- flow number f; flows are numbered from 0
abbrev pub flow_at : Plan → ℕ → Flow
flow_at p f = get_or p.flows f no_flow

-- Sx and Sy are 1..16
abbrev pub most_size : ℕ
most_size = 16

-- F is 1..256
abbrev pub most_flows : ℕ
most_flows = 256

-- P is 1..16,777,215 (02, U5)
abbrev pub most_period : ℕ
most_period = 16777215

-- σ is 1..255
abbrev pub most_burst : ℕ
most_burst = 255

-- every coordinate of a flow is on the torus
abbrev pub on_torus : ℕ → ℕ → Flow → Bool
on_torus sx sy f = ltb f.xs sx && ltb f.ys sy && ltb f.xd sx && ltb f.yd sy
