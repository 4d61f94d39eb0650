-- The law of the bucket: k cycles without an entry, in closed form. Rests on specs/Passed and Regulator.
use mathlib.Core.Bool.{true, false}
use mathlib.Core.Path.{◌≡◌, sym, ap, ◌∙◌}
use Prim.Native.Nat.{ℕ, zero, suc, ◌+◌, ◌*◌, ◌/◌, ◌%◌, ◌≤◌, ◌<◌}
use native.Mathlib.Nat.{div-add-mod', mod-lt, mod-eq_of_lt, div-eq_of_lt, div-eq_of_lt-le, mod-eq-sub-div-mul, add-zero}
use native.Mathlib.Decide.{ℕ_discrete, dec_lt}
use native.Mathlib.Numerals.{add-one}
use native.Mathlib.Omega.{arith}
use borrow.Author.Tests.{lt-ltb, le-ltb, eq-eqb, ne_eqb, leb-true, ltb-true}
use lib.Dec.{ltb, leb}
use Rattle.laws.specs.Turns.{turns}
use Rattle.laws.proofs.Cases.{and_true}
use Rattle.bucket.specs.declared.Bucket.{Bucket}
use Rattle.bucket.specs.Regulator.{with_token, after_count, after_cycle, bucket_fits}
use Rattle.bucket.specs.Passed.{up_to, after_cycles}

-- quotient and rest, one further
record Divides (n period q r : ℕ) : Type 0 where
  quotient : n / period ≡ q
  rest : n % period ≡ r

divides : (n period q r : ℕ) → n ≡ q * period + r → r < period → Divides n period q r
divides n period q r e l =
    let quotient : n / period ≡ q = div-eq_of_lt-le period (omega arith) (omega arith) in
    record { quotient = quotient; rest = omega (arith, mod-eq-sub-div-mul n period, ap (λ k. k * period) quotient) }

-- one token more, lost if the bucket is full
token_more : (burst n : ℕ) → with_token burst (up_to burst n) ≡ up_to burst (n + 1)
token_more burst n =
    elim (dec_lt n burst) [
      | yes l ↦ elim (dec_lt (n + 1) burst) [
        | yes m ↦ rw (lt-ltb n burst l, lt-ltb (n + 1) burst m, lt-ltb n burst l)
        | no m ↦ rw (lt-ltb n burst l, le-ltb (n + 1) burst (omega arith), lt-ltb n burst l) (omega arith)
      ]
      | no l ↦ rw (le-ltb n burst (omega arith), le-ltb (n + 1) burst (omega arith), le-ltb burst burst (omega arith))
    ]

module _ (burst period : ℕ) (some : 1 ≤ period) (b : Bucket) where
  -- one cycle more
  pub cycles_more : (k : ℕ) → after_count burst period (after_cycles burst period k b) ≡ after_cycles burst period (k + 1) b
  unfolding after_count after_cycles
  cycles_more k =
      let n = b.count + k in
      let whole = div-add-mod' n period in
      let below = mod-lt n some in
      let next : b.count + (k + 1) ≡ n + 1 = omega arith in
      elim (ℕ_discrete (n % period + 1) period) [
        | yes e ↦
            let d = divides (n + 1) period (n / period + 1) 0 (omega arith) some in
            let more : b.tokens + (n / period + 1) ≡ b.tokens + n / period + 1 = omega arith in
            rw (eq-eqb (n % period + 1) period e, next, d.quotient, d.rest, more, token_more burst (b.tokens + n / period))
        | no e ↦
            let d = divides (n + 1) period (n / period) (n % period + 1) (omega arith) (omega arith) in
            rw (ne_eqb (n % period + 1) period e, next, d.quotient, d.rest)
      ]

  -- no cycle, for a bucket that fits
  pub cycles_none : bucket_fits burst period b ≡ true → after_cycles burst period 0 b ≡ b
  unfolding after_cycles bucket_fits
  cycles_none e =
      let both = and_true (leb b.tokens burst) (ltb b.count period) e in
      let most : b.tokens ≤ burst = leb-true _ _ both.0 in
      let below : b.count < period = ltb-true _ _ both.1 in
      rw (add-zero b.count, div-eq_of_lt below, mod-eq_of_lt below, add-zero b.tokens) (
      elim (dec_lt b.tokens burst) [
        | yes l ↦ rw (lt-ltb b.tokens burst l)
        | no l ↦
            let full : burst ≡ b.tokens = omega arith in
            rw (le-ltb b.tokens burst (omega arith)) (rw full)
      ])

  -- k cycles of the regulator without an entry
  pub cycles_passed : bucket_fits burst period b ≡ true → (k : ℕ)
      → turns k (λ i. after_cycle burst period false) b ≡ after_cycles burst period k b
  unfolding turns after_cycle
  cycles_passed e zero = sym (cycles_none e)
  cycles_passed e (suc k) = ap (after_count burst period) (cycles_passed e k) ∙ cycles_more k ∙ rw add-one

-- an empty bucket stays empty until its counter is round
pub none_yet : (burst period k : ℕ) (b : Bucket) → 1 ≤ burst → b.tokens ≡ 0 → b.count + k < period → (after_cycles burst period k b).tokens ≡ 0
unfolding after_cycles
none_yet burst period k b some none l = rw (none, div-eq_of_lt l) (rw (lt-ltb 0 burst some))
