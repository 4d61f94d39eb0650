-- Laws of sums over the numbers below a bound. Rests on specs/Bounded.
use mathlib.Core.Logic.{inl, inr, ◌≢◌}
use mathlib.Core.Path.{◌≡◌, refl, sym, ap}
use Prim.Native.Nat.{ℕ, zero, suc, ◌+◌, ◌*◌, ◌≤◌, ◌<◌}
use native.Mathlib.Nat.{eq-or-lt_of_le, le_of_suc-le-suc}
use native.Mathlib.Numerals.{add-one}
use native.Mathlib.Omega.{arith}
use Rattle.laws.specs.Bounded.{sum_below}

pub sum_none : (f : ℕ → ℕ) → sum_below 0 f ≡ 0
unfolding sum_below
sum_none f = refl

pub sum_more : (f : ℕ → ℕ) (n : ℕ) → sum_below (n + 1) f ≡ sum_below n f + f n
unfolding sum_below
sum_more f n = rw add-one

-- equal terms, equal sums
pub sum_same : (f g : ℕ → ℕ) (n : ℕ) → ((i : ℕ) → i < n → f i ≡ g i) → sum_below n f ≡ sum_below n g
unfolding sum_below
sum_same f g zero h = refl
sum_same f g (suc n) h = rw (sum_same f g n (λ i l. h i (omega arith)), h n (omega arith))

-- no term larger, no larger sum
pub sum_mono : (f g : ℕ → ℕ) (n : ℕ) → ((i : ℕ) → i < n → f i ≤ g i) → sum_below n f ≤ sum_below n g
unfolding sum_below
sum_mono f g zero h = omega arith
sum_mono f g (suc n) h = omega (arith, sum_mono f g n (λ i l. h i (omega arith)), h n (omega arith))

-- no fewer terms, no smaller sum
pub sum_grow : (f : ℕ → ℕ) (n m : ℕ) → n ≤ m → sum_below n f ≤ sum_below m f
unfolding sum_below
sum_grow f n zero h =
    let none : n ≡ 0 = omega arith in
    rw none (omega arith)
sum_grow f n (suc m) h =
    elim (eq-or-lt_of_le h) [
      | inl same ↦ rw same (omega arith)
      | inr below ↦ omega (arith, sum_grow f n m (le_of_suc-le-suc below))
    ]

-- n terms of at most c
pub sum_most : (f : ℕ → ℕ) (c n : ℕ) → ((i : ℕ) → i < n → f i ≤ c) → sum_below n f ≤ c * n
unfolding sum_below
sum_most f c zero h = omega arith
sum_most f c (suc n) h = omega (arith, sum_most f c n (λ i l. h i (omega arith)), h n (omega arith))

-- one term one larger, all others the same
pub sum_one : (f g : ℕ → ℕ) (n k : ℕ) → k < n → g k ≡ f k + 1 → ((i : ℕ) → i < n → i ≢ k → g i ≡ f i) → sum_below n g ≡ sum_below n f + 1
unfolding sum_below
sum_one f g zero k l here others = absurd (omega arith)
sum_one f g (suc n) k l here others =
    elim (eq-or-lt_of_le (le_of_suc-le-suc l)) [
      | inl same ↦
          let rest = sum_same f g n (λ i h. sym (others i (omega arith) (λ e. omega arith))) in
          omega (arith, rest, ap f same, ap g same)
      | inr below ↦
          let rest = sum_one f g n k below here (λ i h. others i (omega arith)) in
          omega (arith, rest, others n (omega arith) (λ e. omega arith))
    ]
