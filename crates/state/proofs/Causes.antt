-- Laws of checks that `?` ends: a cause becomes the refusal that the definitions give. Rests on specs/Outcome.
use mathlib.Core.Path.{◌≡◌}
use Prim.Native.Nat.{ℕ}
use native.Mathlib.Omega.{arith}
use Rattle.std.specs.Prelude.{Result, Ok, Err, IsErrAnd}
use Rattle.refusal.specs.declared.Cause.{Cause}
use Rattle.refusal.specs.declared.Refusal.{Refusal}
use Rattle.refusal.specs.Cause.{cause_number}
use Rattle.refusal.proofs.Causes.{cause_some}
use Rattle.refusal.specs.Answer.{Answer, Refused, answer_with}
use Rattle.state.specs.Outcome.{Outcome, outcome, unless}
use Rattle.state.proofs.Over.{unless_refuses}

module _ {A : Type 0} (value : A → ℕ) (cause : Cause) (r : Result A Refusal) where
  -- a cause handed on
  pub told_cause : IsErrAnd r (λ refusal. refusal ≡ record { cause = cause; place = 0 }) → answer_with value r ≡ Refused (cause_number cause) 0
  told_cause e = by r e
    where
      by : (s : Result A Refusal) → IsErrAnd s (λ refusal. refusal ≡ record { cause = cause; place = 0 })
          → answer_with value s ≡ Refused (cause_number cause) 0
      by (Ok v) e = absurd e
      by (Err refusal) e = rw e

  -- it is the refusal with that number
  pub cause_refuses : {M : Type 0} (n : ℕ) (memory : M) (o : Outcome Answer M) → cause_number cause ≡ n
      → IsErrAnd r (λ refusal. refusal ≡ record { cause = cause; place = 0 }) → outcome (answer_with value r) memory ≡ unless n memory o
  cause_refuses n memory o at e =
      let some = cause_some cause in
      rw (told_cause e, at) (unless_refuses n memory o (λ none. omega arith))
