-- The columns' words, flow by flow: each flow keeps what they tell, and after all flows they tell the turning rows. A word counted in
-- bits counts its rows. Rests on the laws of bits.
use mathlib.Core.Bool.{Bool, false, not, cond, ◌||◌, and-true, and-false, or-false}
use mathlib.Core.List.{List, [], ◌∷◌}
use mathlib.Core.Logic.{inl, inr, ◌≢◌}
use mathlib.Core.Path.{◌≡◌, refl, sym, ap, ◌∙◌}
use Prim.Native.Nat.{ℕ, ◌+◌, ◌-◌, ◌*◌, ◌/◌, ◌%◌, ◌^◌, ◌≤◌, ◌<◌}
use native.Mathlib.Nat.{one-mul}
use native.Mathlib.Decide.{ℕ_discrete}
use native.Mathlib.Omega.{arith}
use borrow.Author.Tests.{eq-eqb, ne_eqb}
use lib.Bits.{bit_and, bit_or, or_lt, or_shifted, and_mask}
use lib.Count.{ones}
use lib.Dec.{eqb}
use lib.ListN.{length, get_or, set, replicate, length-set, length-replicate, get_or-replicate}
use lib.Pow.{pow_pos, pow-lt, shl_exact}
use lib.Seq.{get_or-set_same, get_or-set_other}
use Rattle.laws.specs.Bits.{is_set}
use Rattle.laws.specs.Bounded.{tabulate}
use Rattle.laws.specs.Count.{one, any}
use Rattle.laws.proofs.Bits.{ones_set, set_shifted, set_twice, set_or, set_power, set_none}
use Rattle.laws.proofs.Bounded.{tabulate_more, is_tabulate}
use Rattle.laws.proofs.Cases.{test}
use Rattle.laws.proofs.Count.{any_append}
use Rattle.laws.proofs.Sum.{sum_same}
use Rattle.flow.specs.declared.Flow.{Flow}
use Rattle.flow.specs.Plan.{Plan, flow_at, no_flow, most_size}
use Rattle.flow.specs.Ranges.{FlowOk}
use Rattle.turning.specs.Turning.{turns_into, is_turning, rows_south}
use Rattle.turning.specs.Columns.{turns_by, TurningBy, TurningIn, noted}

-- in a word of 32 bits, a bit of a row is that power of 2
pub bit_fits : (k : ℕ) → k ≤ most_size → 1 * 2 ^ k % 4294967296 ≡ 2 ^ k
bit_fits k few = shl_exact {a = 1} 1 k 32 (omega arith) (omega arith) ∙ one-mul (2 ^ k)

-- the rows of a word among the first n rows south of row y, counted in bits
pub rows_counted : (sy word y n : ℕ) → word < 2 ^ sy → y < sy → n ≤ sy
    → ones ((word * 2 ^ sy + word) / 2 ^ (y + 1) % 2 ^ n) ≡ rows_south sy (is_set word) y n
unfolding rows_south
rows_counted sy word y n below on few =
    let twice : ℕ = word * 2 ^ sy + word in
    ones_set (twice / 2 ^ (y + 1)) n
    ∙ sum_same (λ k. one (is_set (twice / 2 ^ (y + 1)) k)) (λ k. one (is_set word ((y + (k + 1)) % sy))) n
    (λ k l. let same : y + 1 + k ≡ y + (k + 1) = omega arith in
    ap one (set_shifted twice (y + 1) k ∙ set_twice word sy (y + 1 + k) below (omega arith) ∙ ap (λ (m : ℕ). is_set word (m % sy)) same))

-- as the code counts them, in words of 32 bits
pub rows_told : (sy word y n : ℕ) → sy ≤ most_size → word < 2 ^ sy → y < sy → n ≤ sy
    → ones (bit_and (bit_or (word * 2 ^ sy % 4294967296) word / 2 ^ (y + 1)) (1 * 2 ^ n % 4294967296 - 1)) ≡ rows_south sy (is_set word) y n
rows_told sy word y n most below on few =
    rw (
      shl_exact {a = word} sy sy 32 below (omega arith),
      or_shifted word sy word below,
      bit_fits n (omega arith),
      and_mask ((word * 2 ^ sy + word) / 2 ^ (y + 1)) n,
    )
    (rows_counted sy word y n below on few)

-- no flow, no row
pub told_none : (p : Plan) (m : ℕ) → p.sx ≤ m → TurningBy p 0 (replicate m 0)
unfolding turns_by tabulate
told_none p m fits =
    record {
      long = rw length-replicate fits;
      small = λ x l. rw (clear x (omega arith)) (pow_pos p.sy);
      told = λ x y l k. rw (clear x (omega arith)) (set_none y);
    }
  where
    clear : (x : ℕ) → x < m → get_or {A = ℕ} (replicate m 0) x 0 ≡ 0
    clear x l = get_or-replicate {A = ℕ} m x 0 0 l

by_all : (p : Plan) (x y : ℕ) → turns_by p (length p.flows) x y ≡ is_turning p x y
unfolding turns_by is_turning
by_all p x y = ap (any (turns_into x y)) (sym (is_tabulate p.flows (length p.flows) (flow_at p) no_flow refl (λ i k. refl)))

-- after all flows
pub told_all : (p : Plan) (columns : List ℕ) → TurningBy p (length p.flows) columns → TurningIn p columns
told_all p columns h = record { long = h.long; small = h.small; told = λ x y l k. h.told x y l k ∙ by_all p x y }

-- a flow turns no row into a column that isn't its destination's
elsewhere : (f : Flow) (x y : ℕ) → x ≢ f.xd → turns_into x y f ≡ false
elsewhere f x y e = rw (ne_eqb f.xd x (λ q. e (sym q)), and-false (not (eqb f.xs x))) (and-false (eqb f.ys y))

module _ (p : Plan) (n : ℕ) (ok : FlowOk p.sx p.sy (flow_at p n)) (columns : List ℕ) (h : TurningBy p n columns) where
  abbrev f : Flow
  f = flow_at p n

  -- one flow more
  by_more : (x y : ℕ) → turns_by p n x y || turns_into x y f ≡ turns_by p (n + 1) x y
  unfolding turns_by
  by_more x y =
      sym (ap (any (turns_into x y)) (tabulate_more n (flow_at p)) ∙ any_append (turns_into x y) (tabulate n (flow_at p)) (f ∷ [])
      ∙ ap (λ (b : Bool). turns_by p n x y || b) (or-false (turns_into x y f)))

  -- it turns no row into column x
  by_same : (x y : ℕ) → turns_into x y f ≡ false → turns_by p n x y ≡ turns_by p (n + 1) x y
  by_same x y e = sym (or-false (turns_by p n x y)) ∙ ap (λ (b : Bool). turns_by p n x y || b) (sym e) ∙ by_more x y

  -- its source row as a bit, where it turns
  abbrev row : ℕ
  row = cond (eqb f.xs f.xd) 0 (2 ^ f.ys)

  row_small : row < 2 ^ p.sy
  row_small =
      elim (test (eqb f.xs f.xd)) [
        | inl own ↦ rw own (pow_pos p.sy)
        | inr turns ↦ rw turns (pow-lt {i = f.ys} {j = p.sy} ok.ys_on)
      ]

  row_told : (y : ℕ) → is_set row y ≡ turns_into f.xd y f
  row_told y =
      elim (ℕ_discrete f.xs f.xd) [
        | yes own ↦ rw (eq-eqb f.xs f.xd own, and-false (eqb f.ys y)) (set_none y)
        | no turns ↦ rw (ne_eqb f.xs f.xd turns, eq-eqb f.xd f.xd refl, and-true (eqb f.ys y)) (set_power f.ys y)
      ]

  -- the word of its destination column with that bit
  abbrev word : ℕ
  word = bit_or (get_or columns f.xd 0) row

  pub told_more : TurningBy p (n + 1) (noted columns f)
  unfolding noted
  told_more = record { long = rw length-set h.long; small = small; told = told }
    where
      room : f.xd < length columns
      room = omega (arith, ok.xd_on, h.long)

      small : (x : ℕ) → x < p.sx → get_or (set columns f.xd word) x 0 < 2 ^ p.sy
      small x l =
          elim (ℕ_discrete x f.xd) [
            | yes own ↦ rw (own, get_or-set_same columns f.xd word 0 room) (or_lt p.sy _ _ (h.small f.xd ok.xd_on) row_small)
            | no other ↦ rw (get_or-set_other columns f.xd x word 0 other) (h.small x l)
          ]

      told : (x y : ℕ) → x < p.sx → y < p.sy → is_set (get_or (set columns f.xd word) x 0) y ≡ turns_by p (n + 1) x y
      told x y l k =
          elim (ℕ_discrete x f.xd) [
            | yes own ↦
                rw (own, get_or-set_same columns f.xd word 0 room, set_or (get_or columns f.xd 0) row y, h.told f.xd y ok.xd_on k, row_told y)
                (by_more f.xd y)
            | no other ↦ rw (get_or-set_other columns f.xd x word 0 other) (h.told x y l k ∙ by_same x y (elsewhere f x y other))
          ]
