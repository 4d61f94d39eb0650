-- Laws of the members that pass a test, and of lists joined end to end. Rests on specs/Count.
use mathlib.Core.Bool.{Bool, true, false}
use mathlib.Core.List.Memᴰ.{head as here}
use mathlib.Core.List.Memᴰ.{tail as there}
use mathlib.Core.List.{List, [], ◌∷◌, ◌++◌, map, Memᴰ as Mem}
use mathlib.Core.Logic.{◌⊎◌, inl, inr}
use mathlib.Core.Path.{◌≡◌, refl, ◌∙◌}
use Prim.Native.Nat.{ℕ, zero, suc, ◌≤◌}
use native.Mathlib.Omega.{arith}
use lib.Dec.{ltb}
use lib.ListN.{length}
use borrow.Author.Tests.{lt-ltb}
use Rattle.laws.specs.Count.{count, any, keep, join_below}
use Rattle.laws.proofs.Cases.{test}
use Rattle.laws.proofs.Count.{any_count, none_count, mem_count}

module _ {A : Type 0} where
  -- equal tests on the members, the same members kept
  pub keep_same : (t u : A → Bool) (l : List A) → ((x : A) → Mem x l → t x ≡ u x) → keep t l ≡ keep u l
  keep_same t u [] h = refl
  keep_same t u (z ∷ l) h = rw (h z (here refl), keep_same t u l (λ x m. h x (there m)))

  pub keep_none : (t : A → Bool) (l : List A) → ((x : A) → Mem x l → t x ≡ false) → keep t l ≡ []
  keep_none t [] h = refl
  keep_none t (z ∷ l) h = rw (h z (here refl), keep_none t l (λ x m. h x (there m)))

  pub keep_append : (t : A → Bool) (l m : List A) → keep t (l ++ m) ≡ keep t l ++ keep t m
  keep_append t [] m = refl
  keep_append t (z ∷ l) m = elim (test (t z)) [ inl e ↦ rw (e, keep_append t l m) | inr e ↦ rw (e, keep_append t l m) ]

  pub keep_map : {B : Type 0} (t : B → Bool) (f : A → B) (l : List A) → keep t (map f l) ≡ map f (keep (λ x. t (f x)) l)
  keep_map t f [] = refl
  keep_map t f (z ∷ l) = elim (test (t (f z))) [ inl e ↦ rw (e, keep_map t f l) | inr e ↦ rw (e, keep_map t f l) ]

  -- what was kept is a member that passes
  pub kept : (t : A → Bool) {x : A} (l : List A) → Mem x (keep t l) → Mem x l × (t x ≡ true)
  kept t {x} [] m = elim m [ ]
  kept t {x} (z ∷ l) m = pick (λ k. kept t l k) (test (t z))
    where
      pick : (Mem x (keep t l) → Mem x l × (t x ≡ true)) → (t z ≡ true) ⊎ (t z ≡ false) → Mem x (z ∷ l) × (t x ≡ true)
      pick later (inl e) = first later e (rw e at m)
        where
          first : (Mem x (keep t l) → Mem x l × (t x ≡ true)) → t z ≡ true → Mem x (z ∷ keep t l) → Mem x (z ∷ l) × (t x ≡ true)
          first later e (here s) = (here s, rw s e)
          first later e (there n) = let k = later n in (there k.0, k.1)
      pick later (inr e) = let k = later (rw e at m) in (there k.0, k.1)

  pub length_keep : (t : A → Bool) (l : List A) → length (keep t l) ≡ count t l
  length_keep t [] = refl
  length_keep t (z ∷ l) = elim (test (t z)) [ inl e ↦ rw (e, length_keep t l) (omega arith) | inr e ↦ rw (e, length_keep t l) (omega arith) ]

  -- the only member that passes
  pub keep_one : (t : A → Bool) (l : List A) → count t l ≤ 1 → (x : A) → Mem x l → t x ≡ true → keep t l ≡ x ∷ []
  keep_one t [] h x m e = elim m [ ]
  keep_one t (z ∷ l) h x (here s) e =
      rw (← s, e, keep_none t l (λ y m. elim (test (t y)) [ inl k ↦ absurd (omega (arith, mem_count t l m k, rw (← s, e) at h)) | inr k ↦ k ]))
  keep_one t (z ∷ l) h x (there m) e =
      elim (test (t z)) [
        | inl k ↦ absurd (omega (arith, mem_count t l m e, rw k at h))
        | inr k ↦ rw k (keep_one t l (omega (arith, rw k at h)) x m e)
      ]

  -- one member passes where the count is not 0
  pub any_by_count : (t : A → Bool) (l : List A) → any t l ≡ ltb 0 (count t l)
  any_by_count t l =
      elim (test (any t l)) [
        | inl e ↦ rw (e, lt-ltb 0 (count t l) (any_count t l e))
        | inr e ↦ rw (e, none_count t l e)
      ]

  -- what keeps the empty list and joins is taken into each of the joined lists
  pub join_through : {B : Type 0} (h : List A → List B) → h [] ≡ [] → ((l m : List A) → h (l ++ m) ≡ h l ++ h m)
      → (n : ℕ) (f : ℕ → List A) → h (join_below n f) ≡ join_below n (λ i. h (f i))
  join_through h none both zero f = none
  join_through h none both (suc n) f = both (join_below n f) (f n) ∙ rw (join_through h none both n f)
