-- What many steps ask for and keep, turn by turn: a leap, or a step behind the exits so far. Only promises of inner functions name these;
-- proofs/Loop ties them to how far the steps have come.
use Rattle.std.specs.Prelude.{Option, List, ◌++◌, ◌≡◌, ℕ, ◌+◌, ◌-◌, ◌*◌, ◌≤◌, length, take, drop}
use Rattle.flow.specs.Limits.{exit_size, most_delivered, step_number}
use Rattle.router.specs.Delivery.{words_of}
use Rattle.state.specs.Words.{state_words}
use Rattle.state.specs.Read.{sx_in, sy_in, state_of}
use Rattle.state.specs.Outcome.{over}
use Rattle.state.specs.Facts.{StateFacts}
use Rattle.state.specs.Forms.{state_number}
use Rattle.cycle.specs.Step.{step_state, deliveries}
use Rattle.routing.specs.Walk.{registers_in}
use Rattle.leap.specs.Leap.{Leapt}
use Rattle.steps.specs.declared.Turn.{Turn}

-- words that form a state, and delivery memory whose exits an answer can count
pub record Checked (w delivery : List ℕ) : Type 0 where
  pub formed : state_number w ≡ 0
  pub delivery_most : length delivery ≤ most_delivered

-- room for the entrants and for the next registers
pub record Rooms (w : List ℕ) (entrants : List (Option ℕ)) (registers : List ℕ) : Type 0 where
  pub entrants_fit : sx_in w * sy_in w ≤ length entrants
  pub registers_fit : registers_in w ≤ length registers

-- the refusal of a step that delivers behind so many exits, or 0
unfoldable pub number_behind : (w delivery : List ℕ) → (exits : ℕ) → ℕ
number_behind w delivery exits = step_number (state_of w).plan (length delivery - exit_size * exits) (state_of w).clock

-- words that form a state, and exits that lie in the delivery memory
pub record Behind (w delivery : List ℕ) (exits : ℕ) : Type 0 where
  pub facts : StateFacts w
  pub fits : exit_size * exits ≤ length delivery

-- a step behind them isn't refused
pub record FreeBehind (w delivery : List ℕ) (exits : ℕ) : Type 0 where
  pub behind : Behind w delivery exits
  pub free : number_behind w delivery exits ≡ 0

-- a turn: a leap of at most so many cycles, or a step behind so many exits
pub data Turned (w delivery : List ℕ) (exits left : ℕ) (t : Turn) (w' delivery' : List ℕ) : Type 0 where
  leapt : Leapt w left t.cycles w' → 1 ≤ t.cycles → t.exits ≡ exits → delivery' ≡ delivery → Turned w delivery exits left t w' delivery'
  stepped : t.cycles ≡ 1 → w' ≡ over (state_words (step_state (state_of w))) w → t.exits ≡ exits + length (deliveries (state_of w))
      → delivery' ≡ take (exit_size * exits) delivery ++ over (words_of (deliveries (state_of w))) (drop (exit_size * exits) delivery)
      → Turned w delivery exits left t w' delivery'
