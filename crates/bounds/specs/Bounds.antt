-- The window call, the burst call and the flight call on a plan file (01, When a call says no; 02, U9).
use Rattle.std.specs.Prelude.{Bool, cond, ◌&&◌, List, ℕ, ltb, leb, length}
use Rattle.flow.specs.declared.Flow.{Flow}
use Rattle.flow.specs.Plan.{Plan, flow_at}
use Rattle.refusal.specs.Answer.{Answer, Done, Refused}
use Rattle.file.specs.Layout.{plan_of}
use Rattle.plan.specs.Refusals.{refused_or, plan_answer}
use Rattle.window.specs.Window.{Window}
use Rattle.std.specs.Prelude.{Some, None}
use Rattle.window.specs.Window.{window_of, burst_window_of}
use Rattle.flight.specs.Flight.{flight_bound}

-- a call on a flow of a plan file: the plan's refusals, then 12: flow number F or more
unfoldable pub asked : List ℕ → ℕ → Answer → Answer
asked file f answer = refused_or (plan_answer file) (cond (ltb f (length (plan_of file).flows)) answer (Refused 12 0))

-- the window, or 14: no window, with the flow as place
abbrev pub window_by : ℕ → Window → Answer
window_by f (Some T) = Done T
window_by f None = Refused 14 f

-- window: plan, 12, 14
unfoldable pub window_answer : List ℕ → ℕ → Answer
window_answer file f = asked file f (window_by f (window_of (plan_of file) f))

-- a burst of flow f has 1 to σ packets
abbrev pub is_burst : Flow → ℕ → Bool
is_burst f k = leb 1 k && leb k f.burst

-- B, the window of k packets: plan, 12, 20, 14. 02, U9: "A k outside 1 to σ is 20, after 12; a burst with no such window is 14."
unfoldable pub burst_answer : List ℕ → (f k : ℕ) → Answer
burst_answer file f k =
    asked file f (cond (is_burst (flow_at (plan_of file) f) k) (window_by f (burst_window_of (plan_of file) f k)) (Refused 20 0))

-- the flight bound of flow number f
abbrev pub flight_bound_of : Plan → ℕ → ℕ
flight_bound_of p f = flight_bound p (flow_at p f)

-- flight bound: plan, 12
unfoldable pub flight_bound_answer : List ℕ → ℕ → Answer
flight_bound_answer file f = asked file f (Done (flight_bound_of (plan_of file) f))
