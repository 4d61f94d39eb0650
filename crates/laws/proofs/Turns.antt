-- Laws of a loop's turns, one for every loop that fills slots. Rests on specs/Turns.
use mathlib.Core.Path.{◌≡◌, refl, ap, ◌∙◌}
use mathlib.Core.Logic.{inl, inr}
use Prim.Native.Nat.{ℕ, zero, suc, ◌+◌, ◌≤◌, ◌<◌}
use native.Mathlib.Nat.{add-zero, add-suc, eq-or-lt_of_le, le_of_suc-le-suc}
use native.Mathlib.Numerals.{add-one}
use native.Mathlib.Omega.{arith}
use Rattle.laws.specs.Turns.{turns}

module _ {A : Type 0} where
  pub turns_none : (step : ℕ → A → A) (a : A) → a ≡ turns 0 step a
  unfolding turns
  turns_none step a = refl

  -- one turn more
  pub turns_more : (n : ℕ) (step : ℕ → A → A) (a b : A) → b ≡ turns n step a → step n b ≡ turns (n + 1) step a
  unfolding turns
  turns_more n step a b e = rw (add-one, e)

  -- what each of these turns keeps
  pub turns_along : (n : ℕ) (step : ℕ → A → A) (a : A) (Ok : A → Type 0)
      → ((i : ℕ) → i < n → Ok (turns i step a) → Ok (step i (turns i step a))) → Ok a → Ok (turns n step a)
  unfolding turns
  turns_along zero step a Ok keeps ok = ok
  turns_along (suc n) step a Ok keeps ok = keeps n (omega arith) (turns_along n step a Ok (λ i l. keeps i (omega arith)) ok)

  -- turns that are all alike
  module _ (f : A → A) where
    pub turns_add : (n k : ℕ) (a : A) → turns (n + k) (λ i. f) a ≡ turns k (λ i. f) (turns n (λ i. f) a)
    unfolding turns
    turns_add n zero a = rw add-zero
    turns_add n (suc k) a = rw add-suc (ap f (turns_add n k a))

    pub turns_stay : (k : ℕ) (a : A) → f a ≡ a → turns k (λ i. f) a ≡ a
    unfolding turns
    turns_stay zero a e = refl
    turns_stay (suc k) a e = ap f (turns_stay k a e) ∙ e

  -- what every turn keeps, from wherever it begins
  pub turns_keep : (n : ℕ) (step : ℕ → A → A) (Ok : A → Type 0) → ((i : ℕ) (a : A) → i < n → Ok a → Ok (step i a))
      → (m : ℕ) (a : A) → m ≤ n → Ok a → Ok (turns m step a)
  turns_keep n step Ok keeps m a l ok = turns_along m step a Ok (λ i h. keeps i (turns i step a) (omega arith)) ok

  -- turn i fills slot i, and no later turn empties it: after all turns each slot is filled
  pub turns_fill : (n : ℕ) (step : ℕ → A → A) (a : A) (Holds : ℕ → A → Type 0)
      → ((i : ℕ) → i < n → Holds i (step i (turns i step a)))
      → ((i k : ℕ) → i < n → k < i → Holds k (turns i step a) → Holds k (step i (turns i step a)))
      → (k : ℕ) → k < n → Holds k (turns n step a)
  unfolding turns
  turns_fill zero step a Holds fills stays k h = absurd (omega arith)
  turns_fill (suc n) step a Holds fills stays k h =
      elim (eq-or-lt_of_le (le_of_suc-le-suc h)) [
        | inl same ↦ rw same (fills n (omega arith))
        | inr below ↦
            let before = turns_fill n step a Holds (λ i l. fills i (omega arith)) (λ i k l. stays i k (omega arith)) k below in
            stays n k (omega arith) below before
      ]
