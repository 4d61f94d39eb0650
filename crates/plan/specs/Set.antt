-- What the table says of an offer that names a set of flows as a list of numbers (02, U4).
use Rattle.std.specs.Prelude.{List, ℕ, length, get_or}
use Rattle.flow.specs.declared.Offerer.TheVariants.{Sonar}
use Rattle.flow.specs.Plan.{Plan}
use Rattle.flow.specs.Limits.{offer_number}
use Rattle.refusal.specs.Answer.{Answer}
use Rattle.plan.specs.Refusals.{first_refused}

-- what the entry at this position, an offer of the sonar's, would be refused for, counting the entries before it as already added; else 0.
-- `waiting n f` packets of flow f wait once the first n entries are added
unfoldable pub set_number : Plan → (waiting : (added flow : ℕ) → ℕ) → (flows : List ℕ) → (position : ℕ) → ℕ
set_number p waiting flows position = let flow = get_or flows position 0 in offer_number Sonar p flow (waiting position flow)

-- the first entry that would be refused gives its number, 12 or 13, and its position in the list as the place
abbrev pub set_answer : Plan → (waiting : (added flow : ℕ) → ℕ) → (flows : List ℕ) → Answer
set_answer p waiting flows = first_refused (set_number p waiting flows) (length flows)
