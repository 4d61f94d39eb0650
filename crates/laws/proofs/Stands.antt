-- A part that stands in a list at a place, and the laws by which parts are read, joined and written. Rests on lib.Seq.
use mathlib.Core.List.{List, [], ◌∷◌, ◌++◌, append-nil, append_assoc}
use mathlib.Core.Logic.{◌⊎◌, inl, inr}
use mathlib.Core.Path.{◌≡◌, refl, sym, ap, ◌∙◌}
use Prim.Native.Nat.{ℕ, zero, suc, ◌+◌, ◌-◌, ◌*◌, ◌≤◌, ◌<◌}
use native.Mathlib.Nat.{add-zero, zero-add, add-suc, add_assoc, eq-or-lt_of_le, le_of_suc-le-suc}
use native.Mathlib.Decide.{dec_lt}
use native.Mathlib.Numerals.{add-one}
use native.Mathlib.Omega.{arith}
use lib.ListN.{length, get_or, take, drop, set, length-append, length-set, take-append-drop, get_or-append}
use lib.Seq.{sets, length-sets, ext_get_or, get_or-take, get_or-append-add, get_or-set_same, get_or-set_other, drop-set-lt, length-take-le}
use Rattle.laws.specs.Bounded.{tabulate}
use Rattle.laws.specs.Count.{join_below}
use Rattle.laws.proofs.Bounded.{length_tabulate, get_d_tabulate}

-- the entries of b are those of l from `at` on
pub record Stands {A : Type 0} (d : A) (l : List A) (at : ℕ) (b : List A) : Type 0 where
  pub fits : at + length b ≤ length l
  pub same : (j : ℕ) → j < length b → get_or l (at + j) d ≡ get_or b j d

module _ {A : Type 0} where
  -- n lists of one length, joined
  pub length_join : (c n : ℕ) (f : ℕ → List A) → ((i : ℕ) → i < n → length (f i) ≡ c) → length (join_below n f) ≡ c * n
  length_join c zero f long = omega arith
  length_join c (suc n) f long =
      omega (arith, length-append (join_below n f) (f n), length_join c n f (λ i h. long i (omega arith)), long n (omega arith))

  pub join_same : (n : ℕ) (f g : ℕ → List A) → ((i : ℕ) → i < n → f i ≡ g i) → join_below n f ≡ join_below n g
  join_same zero f g e = refl
  join_same (suc n) f g e = rw (join_same n f g (λ i h. e i (omega arith)), e n (omega arith))

  -- the first n, then m more
  pub join_add : (n m : ℕ) (f : ℕ → List A) → join_below (n + m) f ≡ join_below n f ++ join_below m (λ i. f (n + i))
  join_add n zero f = rw (add-zero, append-nil)
  join_add n (suc m) f = rw (add-suc, join_add n m f, append_assoc)

  -- two runs of stores, one behind the other
  pub sets_append : (l : List A) (i : ℕ) (a b : List A) → sets (sets l i a) (i + length a) b ≡ sets l i (a ++ b)
  sets_append l i [] b = rw add-zero
  sets_append l i (x ∷ a) b =
      let e : i + suc (length a) ≡ suc i + length a = omega arith in
      rw e (sets_append (set l i x) (suc i) a b)

  -- what lies past a run of stores
  pub drop_sets : (l : List A) (i : ℕ) (a : List A) (n : ℕ) → i + length a ≤ n → drop n (sets l i a) ≡ drop n l
  drop_sets l i [] n h = refl
  drop_sets l i (x ∷ a) n h = drop_sets (set l i x) (suc i) a n (omega arith) ∙ drop-set-lt n l i x (omega arith)

  -- a loop that writes parts of one length, one behind the other: one turn more
  pub sets_more : (c n : ℕ) (f : ℕ → List A) (long : (i : ℕ) → length (f i) ≡ c) (l m : List A) (base : ℕ)
      → m ≡ sets l base (join_below n f) → sets m (base + c * n) (f n) ≡ sets l base (join_below (n + 1) f)
  sets_more c n f long l m base e =
      rw (e, add-one, ← (length_join c n f (λ i h. long i))) (sets_append l base (join_below n f) (f n))

  -- four stores
  pub sets_four : (l : List A) (at : ℕ) (a b c d : A)
      → set (set (set (set l at a) (at + 1) b) (at + 2) c) (at + 3) d ≡ sets l at (a ∷ b ∷ c ∷ d ∷ [])
  sets_four l at a b c d =
      let one : at + 1 ≡ suc at = omega arith in
      let two : at + 2 ≡ suc (suc at) = omega arith in
      let three : at + 3 ≡ suc (suc (suc at)) = omega arith in
      rw (one, two, three)

module _ {A : Type 0} (d : A) where
  -- a list stands in itself
  pub stands_whole : (l : List A) → Stands d l 0 l
  stands_whole l = record { fits = omega arith; same = λ j h. rw zero-add }

  pub stands_left : (l r : List A) (at : ℕ) (b : List A) → Stands d l at b → Stands d (l ++ r) at b
  stands_left l r at b s =
      let n = s.fits in
      record {
        fits = simp length-append (omega arith);
        same = λ j h. get_or-append l r d (at + j) (omega arith) ∙ s.same j h;
      }

  -- among the first n entries
  pub stands_take : (l : List A) (n at : ℕ) (b : List A) → n ≤ length l → at + length b ≤ n → Stands d l at b → Stands d (take n l) at b
  stands_take l n at b h k s =
      record {
        fits = omega (arith, length-take-le n l h);
        same = λ j m. get_or-take n l (at + j) d (omega arith) ∙ s.same j m;
      }

  -- a part of a part
  pub stands_in : (l a b : List A) (at k : ℕ) → Stands d l at a → Stands d a k b → Stands d l (at + k) b
  stands_in l a b at k s t =
      let m = s.fits in
      let n = t.fits in
      record {
        fits = omega arith;
        same = λ j h. rw add_assoc (s.same (k + j) (omega arith) ∙ t.same j h);
      }

  -- what comes first in a list, and what comes after
  pub stands_first : (a b : List A) → Stands d (a ++ b) 0 a
  stands_first a b = stands_left a b 0 a (stands_whole a)

  pub stands_after : (a b : List A) → Stands d (a ++ b) (length a) b
  stands_after a b = record { fits = simp length-append (omega arith); same = λ j h. get_or-append-add a b j d }

  -- two parts, one behind the other
  pub stands_append : (l a b : List A) (at : ℕ) → Stands d l at a → Stands d l (at + length a) b → Stands d l at (a ++ b)
  stands_append l a b at s t =
      let n = t.fits in
      record { fits = simp length-append (omega arith); same = same }
    where
      same : (j : ℕ) → j < length (a ++ b) → get_or l (at + j) d ≡ get_or (a ++ b) j d
      same j h =
          elim (dec_lt j (length a)) [
            | yes below ↦ s.same j below ∙ sym (get_or-append a b d j below)
            | no past ↦
                let k : j ≡ length a + (j - length a) = omega arith in
                let e : at + j ≡ at + length a + (j - length a) = omega arith in
                rw e (t.same (j - length a) (omega (arith, length-append a b)))
                ∙ sym (ap (λ i. get_or (a ++ b) i d) k ∙ get_or-append-add a b (j - length a) d)
          ]

  -- n parts of one length, one behind the other
  pub stands_join : (l : List A) (at c n : ℕ) (f : ℕ → List A) → at ≤ length l → ((i : ℕ) → i < n → length (f i) ≡ c)
      → ((i : ℕ) → i < n → Stands d l (at + c * i) (f i)) → Stands d l at (join_below n f)
  stands_join l at c zero f room long s = record { fits = omega arith; same = λ j h. absurd (omega arith) }
  stands_join l at c (suc n) f room long s =
      stands_append l (join_below n f) (f n) at
      (stands_join l at c n f room (λ i h. long i (omega arith)) (λ i h. s i (omega arith)))
      (rw (length_join c n f (λ i h. long i (omega arith))) (s n (omega arith)))

  -- part i of n
  pub join_stands : (c n : ℕ) (f : ℕ → List A) → ((i : ℕ) → i < n → length (f i) ≡ c) → (i : ℕ) → i < n
      → Stands d (join_below n f) (c * i) (f i)
  join_stands c zero f long i h = absurd (omega arith)
  join_stands c (suc n) f long i h =
      elim (eq-or-lt_of_le (le_of_suc-le-suc h)) [
        | inl same ↦ rw (same, ← (length_join c n f (λ i h. long i (omega arith)))) (stands_after (join_below n f) (f n))
        | inr below ↦ stands_left (join_below n f) (f n) (c * i) (f i) (join_stands c n f (λ i h. long i (omega arith)) i below)
      ]

  -- a list is the part that stands at its start, and what follows
  pub stands_start : (l b : List A) → Stands d l 0 b → l ≡ b ++ drop (length b) l
  stands_start l b s =
      let n : length b ≤ length l = omega (arith, s.fits) in
      let long : length (take (length b) l) ≡ length b = length-take-le (length b) l n in
      sym (take-append-drop (length b) l)
      ∙ ap (λ t. t ++ drop (length b) l) (ext_get_or d (take (length b) l) b long (λ j h. here j (rw long at h)))
    where
      here : (j : ℕ) → j < length b → get_or (take (length b) l) j d ≡ get_or b j d
      here j h = get_or-take (length b) l j d h ∙ ap (λ i. get_or l i d) (sym (zero-add j)) ∙ s.same j h

  -- the next n entries of a list
  pub stands_entries : (l : List A) (at n : ℕ) → at + n ≤ length l → Stands d l at (tabulate n (λ k. get_or l (at + k) d))
  stands_entries l at n h =
      let long = length_tabulate n (λ k. get_or l (at + k) d) in
      record {
        fits = omega arith;
        same = λ j m. sym (get_d_tabulate n (λ k. get_or l (at + k) d) j d (omega arith));
      }

  -- a run of stores leaves its values, and every entry outside
  pub sets_other : (l : List A) (i : ℕ) (vs : List A) (k : ℕ) → (k < i) ⊎ (i + length vs ≤ k) → get_or (sets l i vs) k d ≡ get_or l k d
  sets_other l i [] k h = refl
  sets_other l i (a ∷ vs) k h =
      sets_other (set l i a) (suc i) vs k (elim h [ inl m ↦ inl (omega arith) | inr m ↦ inr (omega arith) ])
      ∙ get_or-set_other l i k a d (λ e. elim h [ inl m ↦ omega arith | inr m ↦ omega arith ])

  pub sets_same : (l : List A) (i : ℕ) (vs : List A) → i + length vs ≤ length l → (j : ℕ) → j < length vs
      → get_or (sets l i vs) (i + j) d ≡ get_or vs j d
  sets_same l i [] h j m = absurd (omega arith)
  sets_same l i (a ∷ vs) h zero m =
      rw add-zero (sets_other (set l i a) (suc i) vs i (inl (omega arith)) ∙ get_or-set_same l i a d (omega arith))
  sets_same l i (a ∷ vs) h (suc j) m =
      let e : i + suc j ≡ suc i + j = omega arith in
      rw e (sets_same (set l i a) (suc i) vs (simp length-set (omega arith)) j (omega arith))

  pub stands_sets : (l : List A) (at : ℕ) (b : List A) → at + length b ≤ length l → Stands d (sets l at b) at b
  stands_sets l at b h = record { fits = rw length-sets h; same = sets_same l at b h }

  -- a part that the stores don't meet
  pub stands_other : (l : List A) (at : ℕ) (b : List A) (i : ℕ) (vs : List A) → Stands d l at b
      → (at + length b ≤ i) ⊎ (i + length vs ≤ at) → Stands d (sets l i vs) at b
  stands_other l at b i vs s h =
      record {
        fits = rw length-sets s.fits;
        same = λ j m. sets_other l i vs (at + j) (elim h [ inl k ↦ inl (omega arith) | inr k ↦ inr (omega arith) ]) ∙ s.same j m;
      }
