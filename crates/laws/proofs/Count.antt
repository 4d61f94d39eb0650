-- Laws of tests over the members of a list. Rests on specs/Count.
use mathlib.Core.Bool.{Bool, true, false, not, ◌&&◌, ◌||◌, false≢true}
use mathlib.Core.List.Memᴰ.{head as here}
use mathlib.Core.List.Memᴰ.{tail as there}
use mathlib.Core.List.{List, [], ◌∷◌, ◌++◌, map, Memᴰ as Mem}
use mathlib.Core.Logic.{◌⊎◌, inl, inr}
use mathlib.Core.Path.{◌≡◌, refl, sym, ◌∙◌}
use Prim.Native.Nat.{ℕ, zero, suc, ◌+◌, ◌≤◌, ◌<◌}
use native.Mathlib.Nat.{eq-or-lt_of_le, le_of_suc-le-suc}
use native.Mathlib.Omega.{arith}
use native.Mathlib.Decide.{ℕ_discrete}
use borrow.Author.Tests.{eq-eqb, ne_eqb}
use lib.Dec.{eqb}
use Rattle.laws.specs.Bounded.{sum_below, tabulate}
use Rattle.laws.specs.Count.{one, count, any, keep, join_below}
use Rattle.laws.proofs.Cases.{test, never}
use Rattle.laws.proofs.Bounded.{tabulate_more}
use Rattle.laws.proofs.Sum.{sum_same}

pub one_most : (t : Bool) → one t ≤ 1
one_most true = omega arith
one_most false = omega arith

or_true : (b : Bool) → b || true ≡ true
or_true true = refl
or_true false = refl

module _ {A : Type 0} where
  -- a member of a list with x at its end
  pub mem_snoc : {y x : A} (l : List A) → Mem y (l ++ (x ∷ [])) → Mem y l ⊎ (y ≡ x)
  mem_snoc [] (here e) = inr e
  mem_snoc [] (there m) = elim m [ ]
  mem_snoc (z ∷ l) (here e) = inl (here e)
  mem_snoc (z ∷ l) (there m) = elim (mem_snoc l m) [ inl n ↦ inl (there n) | inr e ↦ inr e ]

  -- a member of two lists, or of several, one after the other
  pub mem_append : {x : A} (l : List A) {m : List A} → Mem x (l ++ m) → Mem x l ⊎ Mem x m
  mem_append [] i = inr i
  mem_append (z ∷ l) (here e) = inl (here e)
  mem_append (z ∷ l) (there i) = elim (mem_append l i) [ inl n ↦ inl (there n) | inr n ↦ inr n ]

  pub mem_join : {x : A} (n : ℕ) (f : ℕ → List A) → Mem x (join_below n f) → (i : ℕ) × (i < n) × Mem x (f i)
  mem_join zero f m = elim m [ ]
  mem_join (suc n) f m =
      elim (mem_append (join_below n f) m) [
        | inl before ↦ let i = mem_join n f before in (i.0, omega (arith, i.1), i.2)
        | inr last ↦ (n, omega arith, last)
      ]

  pub mem_map : {B : Type 0} {f : A → B} {y : B} (l : List A) → Mem y (map f l) → (x : A) × Mem x l × (y ≡ f x)
  mem_map [] m = elim m [ ]
  mem_map (z ∷ l) (here e) = (z, here refl, e)
  mem_map (z ∷ l) (there m) = let n = mem_map l m in (n.0, there n.1, n.2)

  -- a member passes where any does
  pub any_true : (t : A → Bool) (l : List A) → any t l ≡ true → (x : A) × Mem x l × (t x ≡ true)
  any_true t [] e = absurd (false≢true e)
  any_true t (z ∷ l) e = pick (λ d. any_true t l d) (test (t z))
    where
      pick : (any t l ≡ true → (x : A) × Mem x l × (t x ≡ true)) → (t z ≡ true) ⊎ (t z ≡ false) → (x : A) × Mem x (z ∷ l) × (t x ≡ true)
      pick later (inl hit) = (z, here refl, hit)
      pick later (inr miss) = let n = later (rw miss at e) in (n.0, there n.1, n.2)

  pub any_mem : (t : A → Bool) {x : A} (l : List A) → Mem x l → t x ≡ true → any t l ≡ true
  any_mem t [] x h = elim x [ ]
  any_mem t (z ∷ l) (here e) h = rw (← e, h)
  any_mem t (z ∷ l) (there m) h = rw (any_mem t l m h) (or_true (t z))

  -- a test over two lists, one after the other
  pub any_append : (t : A → Bool) (l m : List A) → any t (l ++ m) ≡ any t l || any t m
  any_append t [] m = refl
  any_append t (z ∷ l) m = elim (test (t z)) [ inl h ↦ rw h | inr h ↦ rw h (any_append t l m) ]

  -- over a tabulated list, entry by entry
  any_snoc : (t : A → Bool) (l : List A) (x : A) → any t (l ++ (x ∷ [])) ≡ any t l || t x
  any_snoc t l x = any_append t l (x ∷ []) ∙ elim (test (t x)) [ inl h ↦ rw h | inr h ↦ rw h ]

  module _ (t : A → Bool) (f : ℕ → A) where
    pub any_more : (n : ℕ) → any t (tabulate n f) ≡ false → t (f n) ≡ false → any t (tabulate (n + 1) f) ≡ false
    any_more n e h = rw (tabulate_more, any_snoc t (tabulate n f) (f n), e, h)

    pub any_below : (n i : ℕ) → i < n → t (f i) ≡ true → any t (tabulate n f) ≡ true
    unfolding tabulate
    any_below zero i l h = absurd (omega arith)
    any_below (suc n) i l h =
        rw (any_snoc t (tabulate n f) (f n))
        (elim (eq-or-lt_of_le (le_of_suc-le-suc l)) [ inl same ↦ rw (← same, h) (or_true (any t (tabulate i f))) | inr below ↦ rw (any_below n i below h) ])

    pub none_below : (n : ℕ) → any t (tabulate n f) ≡ false → (i : ℕ) → i < n → t (f i) ≡ false
    none_below n e i l = never (t (f i)) (λ h. false≢true (sym e ∙ any_below n i l h))

  pub any_count : (t : A → Bool) (l : List A) → any t l ≡ true → 1 ≤ count t l
  any_count t [] e = absurd (false≢true e)
  any_count t (z ∷ l) e = elim (test (t z)) [ inl h ↦ rw h (omega arith) | inr h ↦ rw h (omega (arith, any_count t l (rw h at e))) ]

  pub mem_count : (t : A → Bool) {x : A} (l : List A) → Mem x l → t x ≡ true → 1 ≤ count t l
  mem_count t l m e = any_count t l (any_mem t l m e)

  pub none_count : (t : A → Bool) (l : List A) → any t l ≡ false → count t l ≡ 0
  none_count t [] e = refl
  none_count t (z ∷ l) e = elim (test (t z)) [ inl h ↦ absurd (false≢true (sym e ∙ rw h)) | inr h ↦ rw (h, none_count t l (rw h at e)) ]

  pub count_any : (t : A → Bool) (l : List A) → 1 ≤ count t l → any t l ≡ true
  count_any t l h = elim (test (any t l)) [ inl e ↦ e | inr e ↦ absurd (omega (arith, none_count t l e)) ]

  -- a member that passes, where some are counted
  pub count_find : (t : A → Bool) (l : List A) → 1 ≤ count t l → (x : A) × Mem x l × (t x ≡ true)
  count_find t l h = any_true t l (count_any t l h)

  pub count_append : (t : A → Bool) (l m : List A) → count t (l ++ m) ≡ count t l + count t m
  count_append t [] m = omega arith
  count_append t (z ∷ l) m = omega (arith, count_append t l m)

  pub count_map : {B : Type 0} (t : B → Bool) (f : A → B) (l : List A) → count t (map f l) ≡ count (λ x. t (f x)) l
  count_map t f [] = refl
  count_map t f (z ∷ l) = rw (count_map t f l)

  -- equal tests on the members, equal counts
  pub count_same : (t u : A → Bool) (l : List A) → ((x : A) → Mem x l → t x ≡ u x) → count t l ≡ count u l
  count_same t u [] h = refl
  count_same t u (z ∷ l) h = rw (h z (here refl), count_same t u l (λ x m. h x (there m)))

  -- a test that is the sum of two
  pub count_sum : (t u v : A → Bool) (l : List A) → ((x : A) → Mem x l → one (t x) ≡ one (u x) + one (v x)) → count t l ≡ count u l + count v l
  count_sum t u v [] h = refl
  count_sum t u v (z ∷ l) h = omega (arith, h z (here refl), count_sum t u v l (λ x m. h x (there m)))

  -- a test that none passes
  pub count_none : (t : A → Bool) (l : List A) → ((x : A) → Mem x l → t x ≡ false) → count t l ≡ 0
  count_none t [] h = refl
  count_none t (z ∷ l) h = rw (h z (here refl), count_none t l (λ x m. h x (there m)))

  -- who passes the one passes the other
  pub count_mono : (t u : A → Bool) (l : List A) → ((x : A) → Mem x l → t x ≡ true → u x ≡ true) → count t l ≤ count u l
  count_mono t u [] h = omega arith
  count_mono t u (z ∷ l) h =
      let rest = count_mono t u l (λ x m. h x (there m)) in
      elim (test (t z)) [ inl e ↦ rw (e, h z (here refl) e) (omega arith) | inr e ↦ rw e (omega arith) ]

  -- and one member passes the other only
  pub count_more : (t u : A → Bool) (l : List A) → ((x : A) → Mem x l → t x ≡ true → u x ≡ true)
      → (z : A) → Mem z l → t z ≡ false → u z ≡ true → suc (count t l) ≤ count u l
  count_more t u [] h z m f g = elim m [ ]
  count_more t u (x ∷ l) h z (here e) f g =
      rw (← e, f, g) (omega (arith, count_mono t u l (λ y m. h y (there m))))
  count_more t u (x ∷ l) h z (there m) f g =
      let rest = count_more t u l (λ y n. h y (there n)) z m f g in
      elim (test (t x)) [ inl e ↦ rw (e, h x (here refl) e) (omega arith) | inr e ↦ rw e (omega arith) ]

  pub count_keep : (t u : A → Bool) (l : List A) → count t (keep u l) ≡ count (λ x. u x && t x) l
  count_keep t u [] = refl
  count_keep t u (z ∷ l) = elim (test (u z)) [ inl e ↦ rw (e, count_keep t u l) | inr e ↦ rw (e, count_keep t u l) (omega arith) ]

  pub count_join : (t : A → Bool) (n : ℕ) (f : ℕ → List A) → count t (join_below n f) ≡ sum_below n (λ i. count t (f i))
  unfolding sum_below
  count_join t zero f = refl
  count_join t (suc n) f = rw (count_append t (join_below n f) (f n), count_join t n f)

  -- a count is the sum of the counts by a number below n that each passing member has
  pub count_split : (t : A → Bool) (key : A → ℕ) (n : ℕ) (l : List A) → ((x : A) → Mem x l → t x ≡ true → key x < n)
      → count t l ≡ sum_below n (λ i. count (λ x. eqb (key x) i && t x) l)
  unfolding sum_below
  count_split t key zero l h = count_none t l (λ x m. elim (test (t x)) [ inl e ↦ absurd (omega (arith, h x m e)) | inr e ↦ e ])
  count_split t key (suc n) l h =
      omega (
        arith,
        count_sum t other (λ x. eqb (key x) n && t x) l (λ x m. parts (eqb (key x) n) (t x)),
        count_split other key n l below,
        sum_same _ _ n (λ i u. count_same (λ x. eqb (key x) i && other x) (λ x. eqb (key x) i && t x) l (λ x m. same i (key x) u (t x))),
      )
    where
      other : A → Bool
      other x = not (eqb (key x) n) && t x

      parts : (a b : Bool) → one b ≡ one (not a && b) + one (a && b)
      parts true true = refl
      parts true false = refl
      parts false true = refl
      parts false false = refl

      below : (x : A) → Mem x l → other x ≡ true → key x < n
      below x m e =
          elim (ℕ_discrete (key x) n) [
            | yes k ↦ absurd (false≢true (rw (eq-eqb (key x) n k) at e))
            | no k ↦ omega (arith, h x m (rw (ne_eqb (key x) n k) at e))
          ]

      same : (i k : ℕ) → i < n → (b : Bool) → eqb k i && (not (eqb k n) && b) ≡ eqb k i && b
      same i k u b =
          elim (ℕ_discrete k i) [ yes e ↦ rw (ne_eqb k n (omega arith)) | no e ↦ rw (ne_eqb k i e) ]
