-- What feeding recent flights comes to: one by one as all at once, and always for what a step, or many in one call, delivered (02, U1).
use Rattle.std.specs.Prelude.{List, [], ◌∷◌, ◌≡◌, ℕ, ◌*◌, ◌≤◌, length, take}
use Rattle.flow.specs.Limits.{exit_size}
use Rattle.refusal.specs.Answer.{Done}
use Rattle.router.specs.Delivery.{Delivery, words_of}
use Rattle.state.specs.Read.{plan_in}
use Rattle.cycle.specs.Step.{step_on}
use Rattle.cycle.specs.Steps.{steps_on}
use Rattle.recent.specs.declared.Recent.{Recent}
use Rattle.recent.specs.Recent.{most_kept}
use Rattle.delivery.specs.Groups.{groups_of}
use Rattle.feed.specs.Feed.{feed_on}

-- the records after each delivery was fed by a call of its own, in their order
abbrev pub in_turn : (words : List ℕ) → (last : ℕ) → List Delivery → List Recent → List Recent
in_turn words last [] records = records
in_turn words last (d ∷ ds) records = in_turn words last ds (feed_on words (words_of (d ∷ [])) last records).memory

-- each of these calls answers 0
abbrev pub EachAccepted : (words : List ℕ) → (last : ℕ) → List Delivery → List Recent → Type 0
EachAccepted words last [] records = Unit {0}
EachAccepted words last (d ∷ ds) records =
    let one = feed_on words (words_of (d ∷ [])) last records in (one.answer ≡ Done 0) × EachAccepted words last ds one.memory

pub record OneByOne (words deliveries : List ℕ) (last : ℕ) (records : List Recent) : Type 0 where
  pub each : EachAccepted words last (groups_of deliveries) records
  pub same : (feed_on words deliveries last records).memory ≡ in_turn words last (groups_of deliveries) records

-- feeding a whole step's accepted ones equals feeding them one by one
abbrev pub EveryFeeding : Type 0
EveryFeeding =
    (words deliveries : List ℕ) (last : ℕ) (records : List Recent) → (feed_on words deliveries last records).answer ≡ Done 0
    → OneByOne words deliveries last records

-- on any words that form a state, the words that an accepted step delivered are accepted on the state that it left, with a record
-- for each flow and L from 1 to 16: 12 never comes up for a step's own deliveries
abbrev pub EveryStep : Type 0
EveryStep =
    (words delivery : List ℕ) (exits : ℕ) → (step_on words delivery).answer ≡ Done exits
    → (last : ℕ) (records : List Recent) → 1 ≤ last → last ≤ most_kept → length (plan_in words).flows ≤ length records
    → let left = (step_on words delivery).memory in (feed_on left.state (take (exit_size * exits) left.other) last records).answer ≡ Done 0

-- the same of what many steps in one call delivered: 12 never comes up for it
abbrev pub EverySteps : Type 0
EverySteps =
    (words delivery : List ℕ) (cycles exits : ℕ) → (steps_on words delivery cycles).answer ≡ Done exits
    → (last : ℕ) (records : List Recent) → 1 ≤ last → last ≤ most_kept → length (plan_in words).flows ≤ length records
    → let left = (steps_on words delivery cycles).memory in
    (feed_on left.state (take (exit_size * exits) left.other) last records).answer ≡ Done 0
