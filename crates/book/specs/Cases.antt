-- The starred cases of 01 with U3's windows and U8's rows, U3's, U8's and U9's own, and one of 01's slip 'Expecting a flow's packets in
-- order', as rows of one table (01, Cases on both sides; Slips; 02, U3, U8, U9). All are 4 by 4, and each bound, conflict, window and burst
-- states its plan.
use Rattle.std.specs.Prelude.{List, [], ◌∷◌, map, ◌≡◌, ℕ, zero, suc, Some, None}
use Rattle.flow.specs.declared.Flow.{Flow}
use Rattle.flow.specs.declared.Offerer.TheVariants.{Sonar}
use Rattle.flow.specs.Offsets.{ΔX, ΔY}
use Rattle.flow.specs.Plan.{Plan, flow_with as flow, flow_at}
use Rattle.refusal.specs.Answer.{Answer, Done, Refused}
use Rattle.plan.specs.Written.{plan_bytes}
use Rattle.conflict.specs.Conflict.{Conflict}
use Rattle.conflict.specs.Conflict.{conflict}
use Rattle.flight.specs.Flight.{flight}
use Rattle.bounds.specs.Bounds.{window_answer, burst_answer, flight_bound_of}
use Rattle.book.specs.Book.{bucket_at}
use Rattle.router.specs.Delivery.{Delivery, delivery_with as exit}
use Rattle.book.specs.Feed.{Call, step, run}
use Rattle.book.specs.Feed as Feed

abbrev torus : List Flow → Plan
torus fs = record { sx = 4; sy = 4; flows = fs }

-- an offer of the sonar's
abbrev offer : (flow : ℕ) → Call
offer = Feed.offer Sonar

-- n steps with room for all exits, and what comes after them
abbrev after : ℕ → List Call → List Call
after zero cs = cs
after (suc n) cs = step 80 ∷ after n cs

abbrev steps : ℕ → List Call
steps n = after n []

-- what a row says of the definitions
pub data Case : Type 0 where
  -- ΔX and ΔY of a flow
  offsets : Flow → ℕ → ℕ → Case
  -- the flight bound of a flow by its number
  bound : Plan → ℕ → ℕ → Case
  -- how flow 1 conflicts with flow 0 at its source
  conflicts : Plan → Conflict → Case
  -- what the window call on the plan's file answers for flow 0
  window : Plan → Answer → Case
  -- what the burst call on the plan's file answers for a flow and so many of its packets
  burst : Plan → (flow packets : ℕ) → Answer → Case
  -- what a list of calls delivers, and its flights
  delivers : Plan → List Call → List Delivery → List ℕ → Case
  -- the tokens of flow 0 after a list of calls
  tokens : Plan → List Call → ℕ → Case

abbrev pub Says : Case → Type 0
Says (offsets f dx dy) = (ΔX 4 f ≡ dx) × (ΔY 4 f ≡ dy)
Says (bound p f n) = flight_bound_of p f ≡ n
Says (conflicts p c) = conflict p (flow_at p 0) (flow_at p 1) ≡ c
Says (window p answer) = window_answer (plan_bytes [] p) 0 ≡ answer
Says (burst p f k answer) = burst_answer (plan_bytes [] p) f k ≡ answer
Says (delivers p cs ds ts) = ((run p cs).delivered ≡ ds) × (map (λ (d : Delivery). flight d.entry d.exit) ds ≡ ts)
Says (tokens p cs n) = (bucket_at (run p cs).book 0).tokens ≡ n

-- where a case of 01 names no period or burst, 9 and 1 stand for them
abbrev far : Flow
far = flow 0 0 3 3 9 1

abbrev south : Flow
south = flow 3 3 3 1 9 1

-- the two in one plan: the first turns row 0 for column 3, which the second passes
abbrev both : Plan
both = torus (far ∷ south ∷ [])

-- f and g in one row
abbrev pub across : ℕ → ℕ → Plan
across P σ = torus (flow 1 0 2 0 9 1 ∷ flow 0 0 3 0 P σ ∷ [])

-- f with σ 3, for bursts, which is in none of its own windows
abbrev in_row : Flow
in_row = flow 1 0 2 0 9 3

abbrev pub bursting : ℕ → ℕ → Plan
bursting P σ = torus (in_row ∷ flow 0 0 3 0 P σ ∷ [])

-- with g as flow 0, in every cycle
abbrev pub filled : Plan
filled = torus (flow 0 0 3 0 1 1 ∷ in_row ∷ [])

-- in one column
abbrev pub along : Plan
along = torus (flow 0 2 0 3 9 1 ∷ flow 0 0 0 3 8 1 ∷ [])

-- f and g in one column, with two flows more that turn rows 1 and 2 for it
abbrev pub turned : Plan
turned = torus (flow 0 2 0 3 9 1 ∷ flow 0 0 0 3 8 1 ∷ flow 3 1 0 1 9 1 ∷ flow 1 2 0 2 9 1 ∷ [])

-- g goes down column 1 past f's row, in which nobody turns for column 1; and with a flow that does
abbrev passing : Plan
passing = torus (flow 1 2 2 2 9 1 ∷ flow 0 0 1 3 9 1 ∷ [])

abbrev deflecting : Plan
deflecting = torus (flow 1 2 2 2 9 1 ∷ flow 0 0 1 3 9 1 ∷ flow 3 2 1 2 9 1 ∷ [])

-- and with one more, that turns row 1 for column 1
abbrev rounding : Plan
rounding = torus (flow 1 2 2 2 9 1 ∷ flow 0 0 1 3 9 1 ∷ flow 3 2 1 2 9 1 ∷ flow 3 1 1 1 9 1 ∷ [])

-- the two that meet at (0,1)
abbrev meeting : Plan
meeting = torus (flow 0 0 0 1 9 1 ∷ flow 3 1 0 1 9 1 ∷ [])

-- the same ends, with a second packet of flow 0: it passes the first, which is deflected at (0,1)
abbrev overtaking : Plan
overtaking = torus (flow 0 0 0 1 1 2 ∷ flow 3 1 0 1 9 1 ∷ [])

-- the one of period 10, and one more that leaves in its entry cycle
abbrev slow : Plan
slow = torus (flow 0 0 3 3 10 1 ∷ [])

abbrev home : Plan
home = torus (flow 2 2 2 2 10 1 ∷ [])

abbrev pub starred : List Case
starred =
    bound (torus (far ∷ [])) 0 8
    ∷ delivers (torus (far ∷ [])) (offer 0 ∷ steps 7) (exit 0 1 0 6 0 ∷ []) (8 ∷ [])
    ∷ offsets south 0 2
    ∷ bound (torus (south ∷ [])) 0 4
    ∷ delivers (torus (south ∷ [])) (offer 0 ∷ steps 3) (exit 0 1 0 2 0 ∷ []) (4 ∷ [])
    ∷ delivers (torus (flow 2 2 2 2 9 1 ∷ [])) (offer 0 ∷ steps 1) (exit 0 1 0 0 0 ∷ []) (2 ∷ [])
    ∷ delivers meeting (offer 0 ∷ offer 1 ∷ steps 6) (exit 1 1 0 1 0 ∷ exit 0 1 0 5 1 ∷ []) (3 ∷ 7 ∷ [])
    ∷ window (across 10 1) (Done 3)
    ∷ window (across 2 3) (Done 7)
    ∷ window (across 1 1) (Refused 14 0)
    ∷ conflicts along (Some 0)
    ∷ window along (Done 3)
    ∷ tokens slow (offer 0 ∷ steps 1) 0
    ∷ tokens slow (offer 0 ∷ steps 9) 0
    ∷ tokens slow (offer 0 ∷ steps 10) 1
    -- not starred. U3: "A flow with P 10 and σ 1 may then enter in two neighbouring cycles", 9 and 10; after them it enters in cycle 20
    ∷ delivers home (after 9 (offer 0 ∷ offer 0 ∷ offer 0 ∷ steps 12)) (exit 0 1 9 9 0 ∷ exit 0 2 10 10 0 ∷ exit 0 3 20 20 0 ∷ [])
    (2 ∷ 2 ∷ 2 ∷ [])
    -- U3: "a token that finds it full is lost"
    ∷ tokens home (steps 10) 1
    -- U8: two flows in one plan, where row 0 turns for the second; two turning rows; an E conflict in a later row, which needs f's row
    -- to turn for g's column, and one with a turning row before it; and a bound that the flight of 7 above meets
    ∷ bound both 0 8
    ∷ bound both 1 8
    ∷ conflicts turned (Some 8)
    ∷ window turned (Done 6)
    ∷ bound turned 1 13
    ∷ conflicts passing None
    ∷ conflicts deflecting (Some 0)
    ∷ conflicts rounding (Some 4)
    ∷ bound meeting 0 7
    -- U9: "B for k = 1 is T", the first window above; three packets; k outside 1 to σ, after 12 and before 14; no window, with the flow as
    -- place; and three packets that are offered in cycle 10 and enter in cycles 12 to 14, the last of B, since g's two neighbouring
    -- packets pass f in the first two
    ∷ burst (bursting 10 1) 0 1 (Done 3)
    ∷ burst (bursting 10 1) 0 3 (Done 5)
    ∷ burst (bursting 2 3) 0 3 (Done 11)
    ∷ burst (bursting 10 1) 0 0 (Refused 20 0)
    ∷ burst (bursting 10 1) 0 4 (Refused 20 0)
    ∷ burst (bursting 10 1) 1 2 (Refused 20 0)
    ∷ burst (bursting 10 1) 2 0 (Refused 12 0)
    ∷ burst filled 1 3 (Refused 14 1)
    ∷ burst filled 1 4 (Refused 20 0)
    ∷ delivers (bursting 10 1) (after 9 (offer 1 ∷ offer 1 ∷ after 1 (offer 0 ∷ offer 0 ∷ offer 0 ∷ steps 6)))
    (exit 1 1 9 12 0 ∷ exit 0 1 12 13 0 ∷ exit 1 2 10 13 0 ∷ exit 0 2 13 14 0 ∷ exit 0 3 14 15 0 ∷ []) (5 ∷ 3 ∷ 5 ∷ 3 ∷ 3 ∷ [])
    -- 01's slip: serial 2 of flow 0 leaves in cycle 2, serial 1 in cycle 5
    ∷ delivers overtaking (offer 0 ∷ offer 0 ∷ offer 1 ∷ steps 6) (exit 1 1 0 1 0 ∷ exit 0 2 1 2 0 ∷ exit 0 1 0 5 1 ∷ []) (3 ∷ 3 ∷ 7 ∷ [])
    ∷ []
