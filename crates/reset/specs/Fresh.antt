-- The flows' words at reset (01, State memory). Only promises of inner functions name these.
use Rattle.std.specs.Prelude.{List, ℕ, length}
use Rattle.laws.specs.Count.{join_below}
use Rattle.flow.specs.declared.Flow.{Flow}
use Rattle.flow.specs.Plan.{Plan, flow_at}
use Rattle.state.specs.State.{fresh_tally}
use Rattle.state.specs.Words.{flow_words}

-- its plan numbers, σ tokens, and zeros
abbrev pub fresh_words : Flow → List ℕ
fresh_words f = flow_words f (fresh_tally f.burst)

-- those of a plan's flows
abbrev pub fresh_flows : Plan → List ℕ
fresh_flows p = join_below (length p.flows) (λ f. fresh_words (flow_at p f))
