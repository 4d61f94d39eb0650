-- The state k cycles later, where nothing is in flight and no flow that waits has a token before then. Only promises of inner functions
-- name these; proofs/Idle ties them to the definitions of Step.
use Rattle.std.specs.Prelude.{List, ◌⊎◌, ◌≡◌, ℕ, ◌+◌, ◌≤◌, ◌<◌, length}
use Rattle.laws.specs.Bounded.{tabulate}
use Rattle.flow.specs.declared.Flow.{Flow}
use Rattle.flow.specs.Plan.{flow_at}
use Rattle.flow.specs.Limits.{last_clock}
use Rattle.bucket.specs.Passed.{after_cycles}
use Rattle.state.specs.declared.Tally.{Tally}
use Rattle.state.specs.State.{State, tally_at, cell_at, empty_cell}
use Rattle.state.specs.Words.{state_words}
use Rattle.state.specs.Read.{clock_in, state_of}
use Rattle.state.specs.Outcome.{over}

-- a flow's tally after k cycles in which it doesn't enter
abbrev pub passed_tally : (k : ℕ) → Flow → Tally → Tally
passed_tally k f t = record { bucket = after_cycles f.burst f.period k t.bucket; entered = t.entered; waiting = t.waiting }

-- flow f's
abbrev pub passed_at : (k : ℕ) → State → (f : ℕ) → Tally
passed_at k s f = passed_tally k (flow_at s.plan f) (tally_at s f)

-- clock + k, every counter k further, and the registers as they are
unfoldable pub leap_state : (k : ℕ) → State → State
leap_state k s =
    record { plan = s.plan; clock = s.clock + k; tallies = tabulate (length s.plan.flows) (passed_at k s); cells = s.cells }

-- nothing is in flight
abbrev pub Vacant : State → Type 0
Vacant s = (x y : ℕ) → x < s.plan.sx → y < s.plan.sy → cell_at s x y ≡ empty_cell

-- a flow doesn't enter for k cycles: nothing waits, or no token comes before the last of them has begun
abbrev pub StaysOut : (k : ℕ) → Flow → Tally → Type 0
StaysOut k f t = (t.waiting ≡ 0) ⊎ ((t.bucket.tokens ≡ 0) × (t.bucket.count + k ≤ f.period))

-- the first n flows don't
abbrev pub AllStayOut : (k : ℕ) → State → (n : ℕ) → Type 0
AllStayOut k s n = (f : ℕ) → f < n → StaysOut k (flow_at s.plan f) (tally_at s f)

-- nothing moves and nobody enters for k cycles
pub record Idle (k : ℕ) (s : State) : Type 0 where
  pub vacant : Vacant s
  pub out : AllStayOut k s (length s.plan.flows)

-- what a leap of at most so many cycles leaves of words that form a state, where it took k
pub record Leapt (w : List ℕ) (most k : ℕ) (after : List ℕ) : Type 0 where
  pub within : k ≤ most
  pub clock_most : clock_in w + k ≤ last_clock
  pub stays : k ≡ 0 → after ≡ w
  pub idle : 1 ≤ k → Idle k (state_of w)
  pub leaps : 1 ≤ k → after ≡ over (state_words (leap_state k (state_of w))) w
