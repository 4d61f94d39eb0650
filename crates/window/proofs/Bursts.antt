-- The least window of k packets, a t with I(t) + k ≤ t: what the search's answer says of I, how it is told, the leap, and that of one
-- packet. Rests on specs/Window's least_that.
use mathlib.Core.Bool.{Bool}
use mathlib.Core.Path.{◌≡◌, refl, ap}
use mathlib.Core.Logic.{inl, inr}
use Prim.Native.Nat.{ℕ, zero, suc, ◌+◌, ◌≤◌, ◌<◌}
use native.Mathlib.Nat.{eq-or-lt_of_le}
use native.Mathlib.Decide.{dec_le}
use native.Mathlib.Omega.{arith}
use borrow.Author.Tests.{leb-true, leb-false, le-leb, lt-leb}
use lib.Dec.{ltb, leb}
use Rattle.laws.proofs.Cases.{test}
use Rattle.std.specs.Prelude.{Some, None}
use Rattle.window.specs.Window.{least_from, least_that, least_window, most_window}

-- k packets and the I(t) of others go into t cycles
abbrev pub goes_in : (ℕ → ℕ) → (k t : ℕ) → Bool
goes_in I k t = leb (I t + k) t

-- they go into no number of cycles from s on and below t
abbrev pub Tried : (ℕ → ℕ) → (k s t : ℕ) → Type 0
Tried I k s t = (u : ℕ) → s ≤ u → u < t → u < I u + k

-- t is the least window of the n numbers from s on
pub record Least (I : ℕ → ℕ) (k n s t : ℕ) : Type 0 where
  pub from : s ≤ t
  pub to : t < s + n
  pub free : I t + k ≤ t
  pub tried : Tried I k s t

module _ (I : ℕ → ℕ) (k : ℕ) where
  -- the search finds the least window
  pub least_at : (n s t : ℕ) → Least I k n s t → least_that (goes_in I k) n s ≡ Some t
  unfolding least_that
  least_at zero s t h = absurd (omega arith)
  least_at (suc n) s t h =
      elim (eq-or-lt_of_le h.from) [
        | inl same ↦ rw (same, le-leb (I t + k) t h.free)
        | inr later ↦
            rw (lt-leb (I s + k) s (h.tried s (omega arith) later))
            (least_at n (s + 1) t (record { from = omega arith; to = omega arith; free = h.free; tried = λ u l. h.tried u (omega arith) }))
      ]

  -- it finds nothing where no number is a window
  pub least_none : (n s : ℕ) → Tried I k s (s + n) → least_that (goes_in I k) n s ≡ None
  unfolding least_that
  least_none zero s h = refl
  least_none (suc n) s h =
      rw (lt-leb (I s + k) s (h s (omega arith) (omega arith)))
      (least_none n (s + 1) (λ u l m. h u (omega arith) (omega arith)))

  tried_first : (s t : ℕ) → s < I s + k → Tried I k (s + 1) t → Tried I k s t
  tried_first s t here h u l m = elim (eq-or-lt_of_le l) [ inl same ↦ rw same at here | inr after ↦ h u (omega arith) m ]

  -- what it finds is the least window
  pub at_least : (n s t : ℕ) → least_that (goes_in I k) n s ≡ Some t → Least I k n s t
  unfolding least_that
  at_least zero s t e = let never : ◌≡◌ {A = ℕ} 0 1 = cc in absurd (omega arith)
  at_least (suc n) s t e =
      elim (test (goes_in I k s)) [
        | inl free ↦
            let found : Some s ≡ Some t = rw free at e in
            let same : s ≡ t = cc in
            record { from = omega arith; to = omega arith; free = rw same at (leb-true (I s + k) s free); tried = λ u l m. absurd (omega arith) }
        | inr taken ↦
            let later : Least I k n (s + 1) t = at_least n (s + 1) t (rw taken at e) in
            let to : t < s + 1 + n = later.to in
            record { from = omega arith; to = omega arith; free = later.free; tried = tried_first s t (leb-false (I s + k) s taken) later.tried }
      ]

  -- the least window is at most any window of its range
  pub least_most : (n s t : ℕ) → s ≤ t → t < s + n → I t + k ≤ t → (T : ℕ) × ((least_that (goes_in I k) n s ≡ Some T) × (T ≤ t))
  unfolding least_that
  least_most zero s t l m h = absurd (omega arith)
  least_most (suc n) s t l m h =
      elim (test (goes_in I k s)) [
        | inl e ↦ rw e (s, (refl, l))
        | inr e ↦ elim (eq-or-lt_of_le l) [
          | inl same ↦ let past = leb-false (I s + k) s e in absurd (omega (arith, ap I same))
          | inr after ↦ rw e (least_most n (s + 1) t (omega arith) (omega arith) h)
        ]
      ]

  -- an I that never falls leaps: no number below I(t) + k is a window where t is none
  pub leap : ((u v : ℕ) → u ≤ v → I u ≤ I v) → (s t : ℕ) → Tried I k s t → t < I t + k → Tried I k s (I t + k)
  leap mono s t h over u l m = elim (dec_le t u) [ yes after ↦ omega (arith, mono t u after) | no before ↦ h u l (omega arith) ]

-- with one packet, I(t) + 1 ≤ t is I(t) < t
pub least_same : (I : ℕ → ℕ) (n s : ℕ) → least_that (λ t. leb (I t + 1) t) n s ≡ least_from I n s
unfolding least_from least_that
least_same I zero s = refl
least_same I (suc n) s = let rest = least_same I n (s + 1) in let same : leb (I s + 1) s ≡ ltb (I s) s = ap (λ (m : ℕ). leb m s) (omega arith) in cc

pub least_one : (I : ℕ → ℕ) → least_window (λ t. leb (I t + 1) t) ≡ least_from I most_window 1
least_one I = least_same I most_window 1
