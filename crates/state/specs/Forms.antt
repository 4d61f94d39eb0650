-- When words form a state, and what a call on a state refuses first: 8 and 9 (01, State memory; When a call says no).
use Rattle.std.specs.Prelude.{Bool, cond, not, ◌&&◌, List, ℕ, ◌+◌, ◌-◌, ltb, leb, eqb, length, get_or}
use Rattle.laws.specs.Bounded.{all_below}
use Rattle.flow.specs.declared.Flow.{Flow}
use Rattle.flow.specs.Plan.{on_torus, most_flows, most_period, most_burst}
use Rattle.bucket.specs.Regulator.{bucket_fits}
use Rattle.plan.specs.Refusals.{size_ok}
use Rattle.place.specs.Place.{Place, W, N}
use Rattle.flow.specs.Limits.{most_waiting}
use Rattle.place.specs.InPlace.{is_in_place}
use Rattle.state.specs.Register.{Register}
use Rattle.std.specs.Prelude.{Some, None}
use Rattle.state.specs.Layout.{header_size, zeros_place, register_size, flow_place, state_size}
use Rattle.state.specs.declared.Tally.{Tally}
use Rattle.state.specs.Read.{sx_in, sy_in, count_in, clock_in, flow_in, tally_in, register_in, router_in}

-- the first eight words: Sx, Sy and F lie in their ranges, and the four zeros are 0
unfoldable pub header_fits : List ℕ → Bool
header_fits w =
    size_ok (sx_in w) && size_ok (sy_in w)
    && (leb 1 (count_in w) && leb (count_in w) most_flows)
    && all_below 4 (λ k. eqb (get_or w (zeros_place + k) 0) 0)

-- plan numbers lie in their ranges and coordinates on the torus
unfoldable pub numbers_fit : (sx sy : ℕ) → Flow → Bool
numbers_fit sx sy f =
    on_torus sx sy f
    && (leb 1 f.period && leb f.period most_period)
    && (leb 1 f.burst && leb f.burst most_burst)

-- the regulator's conditions on tokens and count; waiting ≤ 65,535; entered ≤ clock
unfoldable pub tally_fits : (clock : ℕ) → Flow → Tally → Bool
tally_fits clock f t =
    bucket_fits f.burst f.period t.bucket && leb t.waiting most_waiting && leb t.entered clock

-- the words of flow f
unfoldable pub flow_fits : List ℕ → ℕ → Bool
flow_fits w f =
    let at = flow_place f in
    numbers_fit (sx_in w) (sy_in w) (flow_in w at) && tally_fits (clock_in w) (flow_in w at) (tally_in w at)

-- a packet of the flow at a place entered before the clock, and is in place
abbrev pub is_placed : List ℕ → Place → (at entry D : ℕ) → Bool
is_placed w place at entry D = ltb entry (clock_in w) && is_in_place (sx_in w) (sy_in w) (flow_in w at) place D (clock_in w - entry)

-- an empty register is four zeros; a packet is of a flow below F, its serial is 1..entered, its entry is before the clock,
-- and it is in place
abbrev pub contents_fit : List ℕ → Place → (at : ℕ) → Register → Bool
contents_fit w place at None = all_below register_size (λ k. eqb (get_or w (at + k) 0) 0)
contents_fit w place at (Some packet) =
    ltb packet.flow (count_in w)
    && (leb 1 packet.serial && leb packet.serial (tally_in w (flow_place packet.flow)).entered)
    && is_placed w place (flow_place packet.flow) packet.entry packet.deflections

-- the four words of a register
unfoldable pub register_fits : List ℕ → Place → (at : ℕ) → Bool
register_fits w place at = contents_fit w place at (register_in w at)

-- both registers of the router in column x and row y
unfoldable pub cell_fits : List ℕ → (x y : ℕ) → Bool
cell_fits w x y =
    let at = router_in w x y in
    register_fits w (W x y) at && register_fits w (N x y) (at + register_size)

-- the words behind the first eight
unfoldable pub rest_fits : List ℕ → Bool
rest_fits w =
    all_below (count_in w) (flow_fits w)
    && all_below (sy_in w) (λ y. all_below (sx_in w) (λ x. cell_fits w x y))

-- the size that the header asks for
abbrev pub size_in : List ℕ → ℕ
size_in w = state_size (count_in w) (sx_in w) (sy_in w)

-- 8 under eight words; 9 for the first eight words; 8 for the whole size; 9 for the rest; 0 for words that form a state
unfoldable pub state_number : List ℕ → ℕ
state_number w =
    cond (ltb (length w) header_size) 8
    (cond (not (header_fits w)) 9
    (cond (ltb (length w) (size_in w)) 8
    (cond (not (rest_fits w)) 9 0)))
