-- Laws of bounded tests, sums and tabulated lists. Rests on specs/Bounded.
use mathlib.Core.Bool.{Bool, true, false, cond, ◌&&◌}
use mathlib.Core.List.{List, [], ◌∷◌, ◌++◌}
use mathlib.Core.Logic.{◌⊎◌, inl, inr}
use mathlib.Core.Option.{Option, none, some}
use mathlib.Core.Path.{◌≡◌, refl, sym, ◌∙◌}
use Prim.Native.Nat.{ℕ, zero, suc, ◌+◌, ◌<◌}
use native.Mathlib.Nat.{eq-or-lt_of_le, le_of_suc-le-suc}
use native.Mathlib.Numerals.{add-one}
use native.Mathlib.Omega.{arith}
use lib.ListN.{length, get_or, length-append, get_or-append}
use lib.Seq.{get_or_at, ext_get_or}
use Rattle.laws.specs.Bounded.{all_below, first_of, first_below, tabulate}
use Rattle.laws.proofs.Cases.{and_true, test}

pub all_none : (p : ℕ → Bool) → all_below 0 p ≡ true
unfolding all_below
all_none p = refl

pub all_more : (p : ℕ → Bool) (n : ℕ) → all_below n p ≡ true → p n ≡ true → all_below (n + 1) p ≡ true
unfolding all_below
all_more p n h here = rw (add-one, h, here)

pub all_at : (p : ℕ → Bool) (n : ℕ) → all_below n p ≡ true → (i : ℕ) → i < n → p i ≡ true
unfolding all_below
all_at p zero h i l = absurd (omega arith)
all_at p (suc n) h i l =
    let e = and_true (all_below n p) (p n) h in
    elim (eq-or-lt_of_le (le_of_suc-le-suc l)) [ inl same ↦ rw same e.1 | inr below ↦ all_at p n e.0 i below ]

pub all_intro : (p : ℕ → Bool) (n : ℕ) → ((i : ℕ) → i < n → p i ≡ true) → all_below n p ≡ true
unfolding all_below
all_intro p zero h = refl
all_intro p (suc n) h = rw (all_intro p n (λ i l. h i (omega arith)), h n (omega arith))

pub all_fails : (p : ℕ → Bool) (n i : ℕ) → i < n → p i ≡ false → all_below n p ≡ false
unfolding all_below
all_fails p zero i l e = absurd (omega arith)
all_fails p (suc n) i l e =
    elim (eq-or-lt_of_le (le_of_suc-le-suc l)) [ inl same ↦ last (all_below n p) (p n) (rw (← same) e) | inr below ↦ rw (all_fails p n i below e) ]
  where
    last : (a b : Bool) → b ≡ false → a && b ≡ false
    last true b h = h
    last false b h = refl

-- what a search for the first number below n finds: no one passes, or f does and no lower number
pub data First (p : ℕ → Bool) (n : ℕ) : Option ℕ → Type 0 where
  nowhere : ((i : ℕ) → i < n → p i ≡ false) → First p n none
  first_at : (f : ℕ) → f < n → p f ≡ true → ((i : ℕ) → i < f → p i ≡ false) → First p n (some f)

pub finds : (p : ℕ → Bool) (n : ℕ) → First p n (first_below n p)
unfolding first_below
finds p zero = nowhere (λ i l. absurd (omega arith))
finds p (suc n) = more (finds p n) (test (p n))
  where
    more : {o : Option ℕ} → First p n o → (p n ≡ true) ⊎ (p n ≡ false) → First p (suc n) (first_of o (cond (p n) (some n) none))
    more (first_at f l h low) t = first_at f (omega arith) h low
    more (nowhere low) (inl h) = rw h (first_at n (omega arith) h low)
    more (nowhere low) (inr h) = rw h (nowhere (λ i l. elim (eq-or-lt_of_le (le_of_suc-le-suc l)) [ inl same ↦ rw same h | inr below ↦ low i below ]))

-- equal tests, the same finding
pub first_same : (p q : ℕ → Bool) (n : ℕ) → ((i : ℕ) → i < n → p i ≡ q i) → first_below n p ≡ first_below n q
unfolding first_below
first_same p q zero h = refl
first_same p q (suc n) h = rw (first_same p q n (λ i l. h i (omega arith)), h n (omega arith))

module _ {A : Type 0} where
  pub length_tabulate : (n : ℕ) (f : ℕ → A) → length (tabulate n f) ≡ n
  unfolding tabulate
  length_tabulate zero f = refl
  length_tabulate (suc n) f = omega (arith, length-append (tabulate n f) (f n ∷ []), length_tabulate n f)

  pub tabulate_more : (n : ℕ) (f : ℕ → A) → tabulate (n + 1) f ≡ tabulate n f ++ (f n ∷ [])
  unfolding tabulate
  tabulate_more n f = rw add-one

  -- entry i of the list is f i
  pub get_d_tabulate : (n : ℕ) (f : ℕ → A) (i : ℕ) (d : A) → i < n → get_or (tabulate n f) i d ≡ f i
  unfolding tabulate
  get_d_tabulate zero f i d l = absurd (omega arith)
  get_d_tabulate (suc n) f i d l =
      elim (eq-or-lt_of_le (le_of_suc-le-suc l)) [
        | inl same ↦ rw same (get_or_at (tabulate n f) (f n) [] d n (length_tabulate n f))
        | inr below ↦
            get_or-append (tabulate n f) (f n ∷ []) d i (omega (arith, length_tabulate n f)) ∙ get_d_tabulate n f i d below
      ]

  -- a list is the table of its entries
  pub is_tabulate : (l : List A) (n : ℕ) (f : ℕ → A) (d : A) → length l ≡ n → ((i : ℕ) → i < n → get_or l i d ≡ f i) → l ≡ tabulate n f
  is_tabulate l n f d long at =
      ext_get_or d l (tabulate n f) (long ∙ sym (length_tabulate n f)) (λ i h. at i (rw long at h) ∙ sym (get_d_tabulate n f i d (rw long at h)))
