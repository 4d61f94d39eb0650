-- One cycle on a state, all routers from the old registers, what it delivers, and what a step answers and leaves behind
-- (01, One cycle; When a call says no).
use Rattle.std.specs.Prelude.{Bool, cond, List, [], ◌∷◌, ℕ, ◌+◌, ◌-◌, length}
use Rattle.std.proofs.Math.Option.{Option, none, some}
use Rattle.laws.specs.Bounded.{tabulate}
use Rattle.laws.specs.Count.{one, join_below}
use Rattle.laws.specs.Grid.{grid}
use Rattle.flow.specs.declared.Flow.{Flow}
use Rattle.flow.specs.Plan.{flow_at}
use Rattle.flow.specs.Limits.{step_number}
use Rattle.bucket.specs.Regulator.{after_cycle}
use Rattle.refusal.specs.Answer.{Answer, Done}
use Rattle.place.specs.Place.{Place, W, N}
use Rattle.router.specs.Links.{Output, feeder}
use Rattle.router.specs.Rule.{Seen, deflects, Way, via, leave, same_way, takes, entrant, way_in}
use Rattle.router.specs.Delivery.{Delivery, delivery_with, words_of}
use Rattle.state.specs.Register.{Register, packet_with}
use Rattle.std.specs.Prelude.{Some, None}
use Rattle.state.specs.declared.Tally.{Tally}
use Rattle.state.specs.declared.Cell.{Cell}
use Rattle.state.specs.State.{State, tally_at, cell_at}
use Rattle.state.specs.Words.{state_words}
use Rattle.state.specs.Read.{state_of}
use Rattle.state.specs.Forms.{state_number}
use Rattle.state.specs.Outcome.{Outcome, outcome, Lent, lent, unless, over}
use Rattle.cycle.specs.Seen.{seen, view, enters}

-- one deflection more
abbrev pub deflected : Register → Register
deflected None = None
deflected (Some packet) = Some (packet_with packet.flow packet.serial packet.entry (packet.deflections + 1))

abbrev pub onward : Bool → Register → Register
onward deflects r = cond deflects (deflected r) r

-- the packet that flow f enters: its next serial, D = 0, entry = clock
abbrev pub entering : State → ℕ → Register
entering s f = Some (packet_with f ((tally_at s f).entered + 1) s.clock 0)

-- what a client sends by a way out, by the flow that enters there
unfoldable pub sends_by : State → Way → Option ℕ → Register
sends_by s o none = None
sends_by s o (some f) = cond (same_way (way_in s.plan f) o) (entering s f) None

-- the packet that takes this way out of a router: that of W, of N, or the client's
unfoldable pub sent_by : Seen → (x y : ℕ) → Way → (west north client : Register) → Register
sent_by v x y o west north client =
    cond (takes v (W x y) o) (onward (deflects v (W x y)) west)
    (cond (takes v (N x y) o) (onward (deflects v (N x y)) north) client)

-- for the router in column x and row y
unfoldable pub carried : State → (x y : ℕ) → Way → Register
carried s x y o =
    sent_by (seen s x y) x y o (cell_at s x y).west (cell_at s x y).north (sends_by s o (entrant s.plan (view s) x y))

-- a register then holds what the output that reaches it carried
unfoldable pub next_register : State → Place → Register
next_register s at =
    let o : Output = feeder s.plan at in
    carried s o.x o.y (via o.port)

abbrev pub next_cell : State → (x y : ℕ) → Cell
next_cell s x y = record { west = next_register s (W x y); north = next_register s (N x y) }

-- rule 3 and rule 4 for flow f: waiting −1, tokens −1, entered +1 if it enters; then its counter
unfoldable pub next_tally : State → ℕ → Tally
next_tally s f =
    let φ : Flow = flow_at s.plan f in
    let t : Tally = tally_at s f in
    record {
      bucket = after_cycle φ.burst φ.period (enters s f) t.bucket;
      entered = t.entered + one (enters s f);
      waiting = t.waiting - one (enters s f);
    }

-- the state after a cycle; clock + 1
unfoldable pub step_state : State → State
step_state s =
    record {
      plan = s.plan;
      clock = s.clock + 1;
      tallies = tabulate (length s.plan.flows) (next_tally s);
      cells = grid s.plan.sx s.plan.sy (next_cell s);
    }

-- what a packet that exits in this cycle delivers
abbrev pub leaving : (clock : ℕ) → Register → List Delivery
leaving clock None = []
leaving clock (Some packet) = delivery_with packet.flow packet.serial packet.entry clock packet.deflections ∷ []

-- what the router in column x and row y delivers
unfoldable pub delivered : State → (x y : ℕ) → List Delivery
delivered s x y = leaving s.clock (carried s x y leave)

-- routers by row then column
unfoldable pub deliveries : State → List Delivery
deliveries s = join_below s.plan.sy (λ y. join_below s.plan.sx (λ x. delivered s x y))

-- a step: state, 10, 11; otherwise one cycle, the exits' words and their count
unfoldable pub step_on : (words delivery : List ℕ) → Outcome Answer Lent
step_on words delivery =
    let s = state_of words in
    unless (state_number words) (lent words delivery)
    (unless (step_number s.plan (length delivery) s.clock) (lent words delivery)
    (outcome (Done (length (deliveries s))) (lent (over (state_words (step_state s)) words) (over (words_of (deliveries s)) delivery))))
