-- Laws of tables by row, then column, and of equal parts joined in that order. Rests on Stands and specs/Grid.
use mathlib.Core.List.{List, [], ◌∷◌, append-nil}
use mathlib.Core.Path.{◌≡◌, refl, ap, ◌∙◌}
use Prim.Native.Nat.{ℕ, zero, suc, ◌+◌, ◌*◌, ◌≤◌, ◌<◌}
use native.Mathlib.Nat.{add-zero, zero-add, one-mul, add_assoc, mul-add, mul_assoc, mul_comm, mul-le-mul_left, mul-le-mul_right, mul-suc, mul-zero}
use native.Mathlib.Decide.{dec_lt, ℕ_discrete}
use native.Mathlib.Omega.{arith}
use lib.ListN.{length, get_or, drop_of_length-le}
use Rattle.laws.specs.Bounded.{tabulate}
use Rattle.laws.specs.Count.{join_below}
use Rattle.laws.specs.Grid.{grid, cell_index}
use Rattle.laws.proofs.Stands.{Stands, length_join, join_stands, stands_join, stands_in, stands_start, join_same, join_add}

-- the cells before column x of row y, and that one, are of the table
pub cell_below : (sx sy x y : ℕ) → x < sx → y < sy → cell_index sx x y < sx * sy
cell_below sx sy x y h k =
    omega (arith, mul-le-mul_left {m = suc y} sx k, mul-suc sx y, mul_comm sx y)

-- no two cells have one index
pub cell_one : (sx x y a b : ℕ) → x < sx → a < sx → cell_index sx x y ≡ cell_index sx a b → (x ≡ a) × (y ≡ b)
cell_one sx x y a b h k e =
    elim (ℕ_discrete y b) [
      | yes same ↦ (omega (arith, ap (λ r. r * sx) same), same)
      | no other ↦ elim (dec_lt y b) [
        | yes m ↦ absurd (omega (arith, mul-le-mul_right {m = suc y} {n = b} sx m))
        | no m ↦ absurd (omega (arith, mul-le-mul_right {m = suc b} {n = y} sx (omega arith)))
      ]
    ]

-- where cell (x, y) stands, by rows of sx parts of length c
place : (c sx x y : ℕ) → c * sx * y + c * x ≡ c * cell_index sx x y
place c sx x y =
    let e : c * sx * y ≡ c * (y * sx) = mul_assoc c sx y ∙ ap (λ k. c * k) (mul_comm sx y) in
    rw (e, mul-add)

-- the parts g x y, by row, then column
abbrev pub rows : {A : Type 0} → (sx sy : ℕ) → (ℕ → ℕ → List A) → List A
rows sx sy g = join_below sy (λ y. join_below sx (λ x. g x y))

-- the parts by one number are the parts by row, then column
pub join_rows : {A : Type 0} (sx sy : ℕ) (h : ℕ → List A) → join_below (sx * sy) h ≡ rows sx sy (λ x y. h (cell_index sx x y))
join_rows sx zero h = rw mul-zero
join_rows sx (suc sy) h = rw (mul-suc, join_add (sx * sy) sx h, join_rows sx sy h, mul_comm sx sy)

module _ {A : Type 0} (d : A) (c sx sy : ℕ) (g : ℕ → ℕ → List A) (long : (x y : ℕ) → x < sx → y < sy → length (g x y) ≡ c) where
  row_length : (y : ℕ) → y < sy → length (join_below sx (λ x. g x y)) ≡ c * sx
  row_length y k = length_join c sx (λ x. g x y) (λ x h. long x y h k)

  pub length_rows : length (rows sx sy g) ≡ c * (sx * sy)
  length_rows = length_join (c * sx) sy (λ y. join_below sx (λ x. g x y)) row_length ∙ mul_assoc c sx sy

  pub rows_stand : (x y : ℕ) → x < sx → y < sy → Stands d (rows sx sy g) (c * cell_index sx x y) (g x y)
  rows_stand x y h k =
      rw (← (place c sx x y))
      (stands_in d (rows sx sy g) (join_below sx (λ x. g x y)) (g x y) (c * sx * y) (c * x)
      (join_stands d (c * sx) sy (λ y. join_below sx (λ x. g x y)) row_length y k)
      (join_stands d c sx (λ x. g x y) (λ x h. long x y h k) x h))

  pub stands_rows : (l : List A) (at : ℕ) → at + c * (sx * sy) ≤ length l
      → ((x y : ℕ) → x < sx → y < sy → Stands d l (at + c * cell_index sx x y) (g x y)) → Stands d l at (rows sx sy g)
  stands_rows l at room s =
      stands_join d l at (c * sx) sy (λ y. join_below sx (λ x. g x y)) (omega arith) row_length
      (λ y k. stands_join d l (at + c * sx * y) c sx (λ x. g x y)
      (omega (arith, mul-le-mul_left {m = y} {n = sy} (c * sx) (omega arith), mul_assoc c sx sy)) (λ x h. long x y h k)
      (λ x h. rw (add_assoc, place c sx x y) (s x y h k)))

module _ {A : Type 0} where
  -- equal entries, equal tables
  pub tabulate_same : (n : ℕ) (f g : ℕ → A) → ((i : ℕ) → i < n → f i ≡ g i) → tabulate n f ≡ tabulate n g
  unfolding tabulate
  tabulate_same zero f g h = refl
  tabulate_same (suc n) f g h = rw (tabulate_same n f g (λ i l. h i (omega arith)), h n (omega arith))

  pub grid_same : (sx sy : ℕ) (f g : ℕ → ℕ → A) → ((x y : ℕ) → x < sx → y < sy → f x y ≡ g x y) → grid sx sy f ≡ grid sx sy g
  unfolding grid
  grid_same sx sy f g h = join_same sy _ _ (λ y l. tabulate_same sx _ _ (λ x k. h x y k l))

  tabulate_join : (n : ℕ) (f : ℕ → A) → tabulate n f ≡ join_below n (λ i. f i ∷ [])
  unfolding tabulate
  tabulate_join zero f = refl
  tabulate_join (suc n) f = rw (tabulate_join n f)

  grid_rows : (sx sy : ℕ) (g : ℕ → ℕ → A) → grid sx sy g ≡ join_below sy (λ y. join_below sx (λ x. g x y ∷ []))
  unfolding grid
  grid_rows sx sy g = join_same sy _ _ (λ y k. tabulate_join sx (λ x. g x y))

  pub length_grid : (sx sy : ℕ) (g : ℕ → ℕ → A) → length (grid sx sy g) ≡ sx * sy
  length_grid sx sy g = rw (grid_rows sx sy g, length_rows (g 0 0) 1 sx sy (λ x y. g x y ∷ []) (λ x y h k. refl), one-mul)

  pub get_d_grid : (sx sy : ℕ) (g : ℕ → ℕ → A) (d : A) (x y : ℕ) → x < sx → y < sy → get_or (grid sx sy g) (cell_index sx x y) d ≡ g x y
  get_d_grid sx sy g d x y h k =
      let s = rows_stand d 1 sx sy (λ x y. g x y ∷ []) (λ x y h k. refl) x y h k in
      rw (grid_rows sx sy g) (simp (one-mul, add-zero) at (s.same 0 (omega arith)))

  -- a list is the table of its entries
  pub is_grid : (l : List A) (sx sy : ℕ) (g : ℕ → ℕ → A) (d : A) → length l ≡ sx * sy
      → ((x y : ℕ) → x < sx → y < sy → get_or l (cell_index sx x y) d ≡ g x y) → l ≡ grid sx sy g
  is_grid l sx sy g d long at =
      let all = length_rows d 1 sx sy one (λ x y h k. refl) in
      stands_start d l (rows sx sy one) (stands_rows d 1 sx sy one (λ x y h k. refl) l 0 (omega arith) here)
      ∙ rw (drop_of_length-le l {i = length (rows sx sy one)} (omega arith), append-nil, grid_rows sx sy g)
    where
      one : ℕ → ℕ → List A
      one x y = g x y ∷ []

      here : (x y : ℕ) → x < sx → y < sy → Stands d l (0 + 1 * cell_index sx x y) (g x y ∷ [])
      here x y h k = record { fits = omega (arith, cell_below sx sy x y h k); same = first }
        where
          first : (j : ℕ) → j < 1 → get_or l (0 + 1 * cell_index sx x y + j) d ≡ get_or (g x y ∷ []) j d
          first zero m = simp (zero-add, one-mul, add-zero) (at x y h k)
          first (suc j) m = absurd (omega arith)
