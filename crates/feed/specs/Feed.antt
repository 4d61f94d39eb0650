-- Feeding deliveries to a caller's list of records, one per flow: what the call answers and leaves (02, U1).
use Rattle.std.specs.Prelude.{cond, not, ◌&&◌, List, [], ◌∷◌, ℕ, ltb, leb, length, get_or, set}
use Rattle.laws.specs.Count.{any}
use Rattle.flow.specs.Plan.{Plan}
use Rattle.flight.specs.Flight.{flight}
use Rattle.refusal.specs.Answer.{Answer, Done}
use Rattle.router.specs.Delivery.{Delivery}
use Rattle.state.specs.Read.{plan_in}
use Rattle.state.specs.Forms.{state_number}
use Rattle.state.specs.Outcome.{Outcome, outcome, unless}
use Rattle.recent.specs.declared.Recent.{Recent}
use Rattle.recent.specs.Recent.{most_kept, with_delivery, no_record}
use Rattle.delivery.specs.Groups.{groups_of, strange}

-- a delivery: its flow's record keeps its flight and D; all other records stay
unfoldable pub fed_one : (last : ℕ) → Delivery → List Recent → List Recent
fed_one last d records =
    set records d.flow (with_delivery last (flight d.entry d.exit) d.D (get_or records d.flow no_record))

-- deliveries in their order
abbrev pub fed_all : (last : ℕ) → List Delivery → List Recent → List Recent
fed_all last [] records = records
fed_all last (d ∷ ds) records = fed_all last ds (fed_one last d records)

-- 16: fewer records than flows; 17: L outside 1 to 16; 12: one of the deliveries is strange to the plan; else 0
unfoldable pub feed_number : Plan → List Delivery → (count last : ℕ) → ℕ
feed_number p ds count last =
    cond (ltb count (length p.flows)) 16
    (cond (not (leb 1 last && leb last most_kept)) 17
    (cond (any (strange p) ds) 12 0))

-- on the records of a plan's flows; a refusal comes before any record changes
abbrev pub planned_on : Plan → (deliveries : List ℕ) → (last : ℕ) → List Recent → Outcome Answer (List Recent)
planned_on p deliveries last records =
    unless (feed_number p (groups_of deliveries) (length records) last) records (outcome (Done 0) (fed_all last (groups_of deliveries) records))

-- after the state's own checks
unfoldable pub feed_on : (words deliveries : List ℕ) → (last : ℕ) → List Recent → Outcome Answer (List Recent)
feed_on words deliveries last records = unless (state_number words) records (planned_on (plan_in words) deliveries last records)
