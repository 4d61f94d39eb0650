-- A refused reset leaves the words lent to it as they were. Rests on the definition of reset.
use mathlib.Core.List.{List}
use mathlib.Core.Logic.{◌≢◌, inl, inr}
use mathlib.Core.Path.{◌≡◌, refl}
use Prim.Native.Nat.{ℕ}
use lib.Dec.{ltb}
use lib.ListN.{length}
use Rattle.laws.proofs.Cases.{test}
use Rattle.refusal.specs.Answer.{Answer, Done, Refused}
use Rattle.file.specs.Layout.{plan_of}
use Rattle.plan.specs.Refusals.{plan_answer}
use Rattle.state.specs.Outcome.{unless_refused}
use Rattle.state.specs.Layout.{plan_size}
use Rattle.state.specs.Reset.{reset_on}

module _ (file words : List ℕ) where
  pub reset_refused : (reset_on file words).answer ≢ Done 0 → (reset_on file words).memory ≡ words
  unfolding reset_on unless_refused
  reset_refused e = by_plan (plan_answer file) refl
    where
      by_plan : (a : Answer) → plan_answer file ≡ a → (reset_on file words).memory ≡ words
      by_plan (Refused n q) p = rw p
      by_plan (Done value) p =
          elim (test (ltb (length words) (plan_size (plan_of file)))) [
            | inl short ↦ rw (p, short)
            | inr long ↦ absurd (e (rw (p, long)))
          ]
