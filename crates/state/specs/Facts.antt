-- What words that form a state have, as inner functions ask for it. No call's promise names these; proofs/Forms says where they
-- come from.
use Rattle.std.specs.Prelude.{true, List, ◌≡◌, ℕ, ◌+◌, ◌≤◌, ◌<◌, length, get_or}
use Rattle.flow.specs.declared.Flow.{Flow}
use Rattle.flow.specs.Offsets.{ΔX}
use Rattle.flow.specs.Plan.{most_flows}
use Rattle.flow.specs.Ranges.{FlowOk, SizeOk}
use Rattle.flow.specs.Limits.{most_waiting}
use Rattle.place.specs.Place.{W, N}
use Rattle.state.specs.declared.Tally.{Tally}
use Rattle.state.specs.Layout.{zeros_place, register_size, flow_place}
use Rattle.state.specs.Read.{sx_in, sy_in, count_in, clock_in, flow_in, tally_in, router_in}
use Rattle.state.specs.Forms.{register_fits, size_in}

-- the first eight words
pub record HeaderFacts (w : List ℕ) : Type 0 where
  pub sx_ok : SizeOk (sx_in w)
  pub sy_ok : SizeOk (sy_in w)
  pub count_least : 1 ≤ count_in w
  pub count_most : count_in w ≤ most_flows
  pub zeros : (k : ℕ) → k < 4 → get_or w (zeros_place + k) 0 ≡ 0

-- a flow's count, waiting and entered
pub record TallyFacts (clock : ℕ) (f : Flow) (t : Tally) : Type 0 where
  pub count_below : t.bucket.count < f.period
  pub waiting_most : t.waiting ≤ most_waiting
  pub entered_most : t.entered ≤ clock

-- a header that fits, and as many words as it asks for
pub record Headed (w : List ℕ) : Type 0 where
  pub header : HeaderFacts w
  pub long : size_in w ≤ length w

-- of such words, flow f
pub record FlowOf (w : List ℕ) (f : ℕ) : Type 0 where
  pub headed : Headed w
  pub below : f < count_in w

-- the words of flow f
pub record FlowFacts (w : List ℕ) (f : ℕ) : Type 0 where
  pub numbers : FlowOk (sx_in w) (sy_in w) (flow_in w (flow_place f))
  pub tally : TallyFacts (clock_in w) (flow_in w (flow_place f)) (tally_in w (flow_place f))

-- a list has ΔX of each of the first n flows, by its number, and room for all flows
pub record ColumnOffsets (w : List ℕ) (n : ℕ) (dxs : List ℕ) : Type 0 where
  pub room : count_in w ≤ length dxs
  pub offset : (f : ℕ) → f < n → get_or dxs f 0 ≡ ΔX (sx_in w) (flow_in w (flow_place f))

-- every flow of such words fits, and its ΔX is at hand
pub record FlowsFit (w dxs : List ℕ) : Type 0 where
  pub headed : Headed w
  pub flow : (f : ℕ) → f < count_in w → FlowFacts w f
  pub known : ColumnOffsets w (count_in w) dxs

-- all that later code asks of words that form a state
pub record StateFacts (w : List ℕ) : Type 0 where
  pub header : HeaderFacts w
  pub long : size_in w ≤ length w
  pub flow : (f : ℕ) → f < count_in w → FlowFacts w f
  pub west : (x y : ℕ) → x < sx_in w → y < sy_in w → register_fits w (W x y) (router_in w x y) ≡ true
  pub north : (x y : ℕ) → x < sx_in w → y < sy_in w → register_fits w (N x y) (router_in w x y + register_size) ≡ true

-- flow f of words that form a state
pub record StateFlow (w : List ℕ) (f : ℕ) : Type 0 where
  pub facts : StateFacts w
  pub below : f < count_in w

-- their router in column x and row y
pub record StateRouter (w : List ℕ) (x y : ℕ) : Type 0 where
  pub facts : StateFacts w
  pub column : x < sx_in w
  pub row : y < sy_in w
