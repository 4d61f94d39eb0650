-- Laws of turning rows: the count rises by 1 at a row that passes the test and stays at any other. Rests on specs/Turning and the laws
-- of offsets.
use mathlib.Core.Bool.{Bool, true}
use mathlib.Core.List.Memᴰ.{head as here}
use mathlib.Core.List.Memᴰ.{tail as there}
use mathlib.Core.List.{List, [], ◌∷◌, Memᴰ as Mem}
use mathlib.Core.Logic.{inl, inr, ◌≢◌}
use mathlib.Core.Path.{◌≡◌, refl, sym, ap, ◌∙◌}
use Prim.Native.Nat.{ℕ, zero, suc, ◌+◌, ◌-◌, ◌%◌, ◌≤◌, ◌<◌}
use native.Mathlib.Nat.{mod-lt, mod-eq_of_lt, add-mod_right}
use native.Mathlib.Omega.{arith}
use borrow.Author.Tests.{eq-eqb, ne_eqb}
use lib.ListN.{length, get_or}
use Rattle.laws.specs.Count.{one}
use Rattle.laws.proofs.Cases.{test}
use Rattle.laws.proofs.Count.{one_most, any_mem}
use Rattle.laws.proofs.Sum.{sum_more, sum_most, sum_same}
use Rattle.torus.specs.Axis.{offset}
use Rattle.torus.proofs.Axis.{offset_cases}
use Rattle.flow.specs.declared.Flow.{Flow}
use Rattle.flow.specs.Plan.{Plan, flow_at, no_flow}
use Rattle.turning.specs.Turning.{turns_into, is_turning, rows_south}

-- as many rows south of row `from` as lie between, and there
south_offset : (size from to : ℕ) → from < size → to < size → (from + offset size from to) % size ≡ to
south_offset size from to f t =
    elim (offset_cases size from to f t) [
      | inl ahead ↦ let e : from + offset size from to ≡ to = omega arith in rw (e, mod-eq_of_lt {n = to} {m = size} t)
      | inr round ↦
          let e : from + offset size from to ≡ to + size = omega arith in
          rw (e, add-mod_right, mod-eq_of_lt {n = to} {m = size} t)
    ]

get_d_mem : (l : List Flow) (i : ℕ) → i < length l → Mem (get_or l i no_flow) l
get_d_mem [] i h = absurd (omega arith)
get_d_mem (f ∷ l) zero h = here refl
get_d_mem (f ∷ l) (suc i) h = there (get_d_mem l i (omega arith))

-- a flow makes its source row turning for its destination column, unless it starts there
pub turns_own : (p : Plan) (f : ℕ) → f < length p.flows → (x y : ℕ) → (flow_at p f).ys ≡ y → (flow_at p f).xs ≢ x → (flow_at p f).xd ≡ x
    → is_turning p x y ≡ true
unfolding is_turning
turns_own p f below x y row other column =
    let φ : Flow = flow_at p f in
    any_mem (turns_into x y) p.flows (get_d_mem p.flows f below)
    (rw (eq-eqb φ.ys y row, ne_eqb φ.xs x other, eq-eqb φ.xd x column))

-- a test of the same rows of the torus counts the same
pub south_same : (sy : ℕ) (t u : ℕ → Bool) → 1 ≤ sy → ((y : ℕ) → y < sy → t y ≡ u y) → (y r : ℕ) → rows_south sy t y r ≡ rows_south sy u y r
unfolding rows_south
south_same sy t u some e y r =
    sum_same (λ k. one (t ((y + (k + 1)) % sy))) (λ k. one (u ((y + (k + 1)) % sy))) r
    (λ k l. ap one (e ((y + (k + 1)) % sy) (mod-lt (y + (k + 1)) some)))

module _ (sy : ℕ) (t : ℕ → Bool) (y : ℕ) where
  abbrev rows : ℕ → ℕ
  rows r = rows_south sy t y r

  abbrev passes : ℕ → ℕ
  passes k = one (t ((y + (k + 1)) % sy))

  south_more : (r : ℕ) → rows (r + 1) ≡ rows r + passes r
  unfolding rows_south
  south_more r = sum_more passes r

  -- at most all of them
  pub south_most : (r : ℕ) → rows r ≤ r
  unfolding rows_south
  south_most r = omega (arith, sum_most passes 1 r (λ k l. one_most (t ((y + (k + 1)) % sy))))

  -- the count never falls
  south_on : (m d : ℕ) → rows m ≤ rows (m + d)
  south_on m zero = let e : rows (m + 0) ≡ rows m = ap rows (omega arith) in omega arith
  south_on m (suc d) =
      let e : rows (m + suc d) ≡ rows (m + d + 1) = ap rows (omega arith) in
      omega (arith, south_on m d, south_more (m + d))

  pub south_rises : (m n : ℕ) → m ≤ n → rows m ≤ rows n
  south_rises m n h = let e : rows (m + (n - m)) ≡ rows n = ap rows (omega arith) in omega (arith, south_on m (n - m))

  -- to a row of the torus below y
  module _ (on : y < sy) (to : ℕ) (to_on : to < sy) (south : 1 ≤ offset sy y to) where
    abbrev r : ℕ
    r = offset sy y to

    at_row : rows r ≡ rows (r - 1) + one (t to)
    at_row =
        let back : r - 1 + 1 ≡ r = omega arith in
        let row : (y + (r - 1 + 1)) % sy ≡ to = ap (λ (n : ℕ). (y + n) % sy) back ∙ south_offset sy y to on to_on in
        sym (ap rows back) ∙ south_more (r - 1) ∙ ap (λ (at : ℕ). rows (r - 1) + one (t at)) row

    -- the count rises at a row that passes, and there only
    pub south_step : t to ≡ true → rows r ≡ rows (r - 1) + 1
    south_step e = omega (arith, at_row, ap one e)

    pub step_south : rows (r - 1) < rows r → t to ≡ true
    step_south h =
        elim (test (t to)) [
          | inl e ↦ e
          | inr e ↦ absurd (omega (arith, at_row, ap one e))
        ]
