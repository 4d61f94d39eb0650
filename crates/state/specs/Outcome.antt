-- What a call answers and leaves in the memory lent to it; a refusal leaves it as it was (01, When a call says no).
use Rattle.std.specs.Prelude.{List, ◌++◌, ℕ, zero, suc, length, drop}
use Rattle.refusal.specs.Answer.{Answer, Done, Refused}

-- the answer, and the lent memory afterwards
pub record Outcome (A M : Type 0) : Type 0 where
  pub answer : A
  pub memory : M

abbrev pub outcome : {A M : Type 0} → A → M → Outcome A M
outcome answer memory = record { answer = answer; memory = memory }

-- what a step is lent: state memory, and delivery memory beside it
pub record Lent : Type 0 where
  pub state : List ℕ
  pub other : List ℕ

abbrev pub lent : (state other : List ℕ) → Lent
lent state other = record { state = state; other = other }

module _ {M : Type 0} where
  -- a refusal with place 0
  abbrev pub refused : (number : ℕ) → M → Outcome Answer M
  refused number memory = outcome (Refused number 0) memory

  -- the refusal with that number, unless it is 0
  unfoldable pub unless : (number : ℕ) → M → Outcome Answer M → Outcome Answer M
  unless zero memory accepted = accepted
  unless (suc n) memory accepted = refused (suc n) memory

  -- a refusal with its place, unless that answer is a value
  unfoldable pub unless_refused : Answer → M → Outcome Answer M → Outcome Answer M
  unless_refused (Done v) memory accepted = accepted
  unless_refused (Refused number place) memory accepted = outcome (Refused number place) memory

-- the memory with its leading part written anew; what lies past that part stays
abbrev pub over : (part memory : List ℕ) → List ℕ
over part memory = part ++ drop (length part) memory
