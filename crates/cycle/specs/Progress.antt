-- How far many steps have come, on a state and its deliveries. Only promises of inner functions name these; proofs/Steps ties them to the
-- call.
use Rattle.std.specs.Prelude.{List, [], ◌++◌, ◌≡◌, ℕ, zero, suc, ◌-◌, ◌*◌, length}
use Rattle.laws.specs.Turns.{turns}
use Rattle.flow.specs.Limits.{exit_size, step_number}
use Rattle.router.specs.Delivery.{Delivery, words_of}
use Rattle.state.specs.State.{State}
use Rattle.state.specs.Words.{state_words}
use Rattle.state.specs.Outcome.{over}
use Rattle.cycle.specs.Step.{step_state, deliveries}

-- the state that they have reached, and all that they have delivered
pub record Progress : Type 0 where
  pub state : State
  pub delivered : List Delivery

abbrev pub begun : State → Progress
begun s = record { state = s; delivered = [] }

-- the refusal of the next step, or 0, with so many words of delivery memory in all
abbrev pub next_number : (room : ℕ) → Progress → ℕ
next_number room r = step_number r.state.plan (room - exit_size * length r.delivered) r.state.clock

-- one step more, by the number of its refusal: one that is refused changes nothing
abbrev pub advanced : (number : ℕ) → Progress → Progress
advanced zero r = record { state = step_state r.state; delivered = r.delivered ++ deliveries r.state }
advanced (suc n) r = r

unfoldable pub advance : (room : ℕ) → Progress → Progress
advance room r = advanced (next_number room r) r

-- so many steps from a state
abbrev pub progress : (room : ℕ) → State → (steps : ℕ) → Progress
progress room s steps = turns steps (λ i. advance room) (begun s)

-- memories that hold it, over those that were lent: the count of exits, the state's words, and the words of what was delivered
pub record Reached (w delivery : List ℕ) (r : Progress) (exits : ℕ) (w' delivery' : List ℕ) : Type 0 where
  pub exits_are : exits ≡ length r.delivered
  pub words_are : w' ≡ over (state_words r.state) w
  pub delivery_is : delivery' ≡ over (words_of r.delivered) delivery
