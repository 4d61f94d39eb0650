-- What a call answers: a value, or a refusal's number with its place (01, When a call says no).
use Rattle.std.specs.Prelude.{ℕ, Result, Ok, Err}
use Rattle.refusal.specs.declared.Cause.{Cause}
use Rattle.refusal.specs.declared.Refusal.{Refusal}
use Rattle.refusal.specs.Cause.{cause_number}

pub data Answer : Type 0 where
  Done : ℕ → Answer
  Refused : (number place : ℕ) → Answer

-- the answer that a result is: its value read as a number, or the refusal
abbrev pub answer_with : {A : Type 0} → (A → ℕ) → Result A Refusal → Answer
answer_with value (Ok v) = Done (value v)
answer_with value (Err e) = Refused (cause_number e.cause) e.place

-- of a call that has no value: 0
abbrev pub told : Result Unit Refusal → Answer
told r = answer_with (λ u. 0) r

-- of a call that answers a number
abbrev pub told_value : Result ℕ Refusal → Answer
told_value r = answer_with (λ v. v) r

-- the number of a result's cause, or 0 where it has none
abbrev pub number_in : {A : Type 0} → Result A Cause → ℕ
number_in (Ok v) = 0
number_in (Err cause) = cause_number cause
