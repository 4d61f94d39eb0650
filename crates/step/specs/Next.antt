-- What a step needs, and the words that it leaves, part by part.
-- Only promises of inner functions name these; proofs/ ties them to the definitions of Calls.
use Rattle.std.specs.Prelude.{Option, List, ◌≡◌, ℕ, ◌+◌, ◌*◌, ◌≤◌, ◌<◌, length, get_or, set, take}
use Rattle.std.specs.Borrow.{MutBor}
use Rattle.std.proofs.lemmas.List.Edits.{sets}
use Rattle.laws.specs.Turns.{turns}
use Rattle.flow.specs.Limits.{last_clock, exit_size}
use Rattle.refusal.specs.Answer.{Done}
use Rattle.router.specs.Delivery.{words_of}
use Rattle.state.specs.Layout.{clock_place, flow_place}
use Rattle.state.specs.Words.{state_words}
use Rattle.state.specs.Outcome.{outcome, lent, refused, over}
use Rattle.state.specs.Facts.{StateFacts}
use Rattle.state.specs.Tallied.{tallied}
use Rattle.state.specs.Read.{sx_in, sy_in, count_in, clock_in, state_of}
use Rattle.cycle.specs.Step.{next_tally, step_state, deliveries, step_on}
use Rattle.entry.specs.Entrants.{Entrants}
use Rattle.routing.specs.Walk.{registers_in}

-- a state whose clock isn't the last, and room for an exit at each router
pub record Stepping (w delivery : List ℕ) : Type 0 where
  pub facts : StateFacts w
  pub clock_below : clock_in w < last_clock
  pub delivery_fits : exit_size * (sx_in w * sy_in w) ≤ length delivery

-- what the number of its refusal tells of a step: 0 that it runs, another that it is refused
pub record Judged (w delivery : List ℕ) (number : ℕ) : Type 0 where
  pub refuses : (number ≡ 0 → ⊥) → step_on w delivery ≡ refused number (lent w delivery)
  pub passes : number ≡ 0 → Stepping w delivery
  pub runs : number ≡ 0 → let s = state_of w in
      step_on w delivery
      ≡ outcome (Done (length (deliveries s))) (lent (over (state_words (step_state s)) w) (over (words_of (deliveries s)) delivery))

-- room for the entrants, of which there are none yet, and for the next registers, which are cleared
pub record Room (w : List ℕ) (entrants : List (Option ℕ)) (registers : List ℕ) : Type 0 where
  pub registers_fit : registers_in w ≤ length registers
  pub registers_clear : (i : ℕ) → i < registers_in w → get_or registers i 0 ≡ 0
  pub no_entrants : Entrants (state_of w) 0 entrants

-- what is said of a call on a state, a memory beside it, entrants and registers, and after it
abbrev pub Before : Type 1
Before = MutBor (List ℕ) → MutBor (List ℕ) → MutBor (List (Option ℕ)) → MutBor (List ℕ) → Type 0

abbrev pub After : Type 0 → Type 1
After R =
    MutBor (List ℕ) → MutBor (List ℕ) → MutBor (List (Option ℕ)) → MutBor (List ℕ) → R
    → MutBor (List ℕ) → MutBor (List ℕ) → MutBor (List (Option ℕ)) → MutBor (List ℕ) → Type 0

-- the call may be made on a state w and a memory beside it, with any room
abbrev pub Runs : Before → (w beside : List ℕ) → Type 0
Runs pre w beside =
    (s b : MutBor (List ℕ)) (entrants : MutBor (List (Option ℕ))) (registers : MutBor (List ℕ))
    → s.now ≡ w → b.now ≡ beside → Room w entrants.now registers.now → pre s b entrants registers

-- the call was made on them with some room, and gave r and left w' and beside'
pub record Ran {R : Type 0} (post : After R) (w beside : List ℕ) (r : R) (w' beside' : List ℕ) : Type 0 where
  pub state : MutBor (List ℕ)
  pub memory : MutBor (List ℕ)
  pub entrants : MutBor (List (Option ℕ))
  pub registers : MutBor (List ℕ)
  pub state_after : MutBor (List ℕ)
  pub memory_after : MutBor (List ℕ)
  pub entrants_after : MutBor (List (Option ℕ))
  pub registers_after : MutBor (List ℕ)
  pub before : (state.now ≡ w) × (memory.now ≡ beside)
  pub room : Room w entrants.now registers.now
  pub ran : post state memory entrants registers r state_after memory_after entrants_after registers_after
  pub after : (state_after.now ≡ w') × (memory_after.now ≡ beside')

-- a cycle: the words of the state after it, the exits' words, and their count
pub record Stepped (w delivery : List ℕ) (exits : ℕ) (w' delivery' : List ℕ) : Type 0 where
  pub state_after : w' ≡ over (state_words (step_state (state_of w))) w
  pub value : exits ≡ length (deliveries (state_of w))
  pub delivery_after : delivery' ≡ over (words_of (deliveries (state_of w))) delivery

-- the words w, with every next tally, the next clock, and these registers behind the flows
unfoldable pub next_words : (w registers : List ℕ) → List ℕ
next_words w registers =
    sets (set (turns (count_in w) (tallied (next_tally (state_of w))) w) clock_place (clock_in w + 1)) (flow_place (count_in w)) (take (registers_in w) registers)
