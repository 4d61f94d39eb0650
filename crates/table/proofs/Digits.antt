-- A number below 10 is its digit, any other has the digits of its tenth and one more; they are those that the library prints, at most
-- ten for a 32-bit number. Rests on specs/Decimal.
use mathlib.Core.List.{[], ◌∷◌, ◌++◌}
use mathlib.Core.Logic.{inl, inr}
use mathlib.Core.Path.{◌≡◌}
use Prim.Native.Nat.{ℕ, zero, suc, ◌+◌, ◌/◌, ◌%◌, ◌^◌, ◌≤◌, ◌<◌}
use native.Mathlib.Numerals.{add-one}
use native.Mathlib.Omega.{arith}
use borrow.Author.Tests.{lt-ltb, le-ltb, ltb-true, ltb-false}
use lib.Dec.{ltb}
use lib.ListN.{length, length-append}
use Rattle.std.proofs.lemmas.Fmt.{AppendsLastDigit, decimal_from_appends, length-decimal-le_succ, length-decimal-le}
use Rattle.std.specs.Fmt as Printed
use Rattle.laws.proofs.Cases.{test}
use Rattle.table.specs.Decimal.{digit, digits_in, decimal}
use Rattle.table.specs.Inner.{most_digits}

-- enough places hold all digits
places : (j k n : ℕ) → n < j → n < k → digits_in j n ≡ digits_in k n
unfolding digits_in
places zero k n p q = absurd (omega arith)
places (suc j) zero n p q = absurd (omega arith)
places (suc j) (suc k) n p q =
    elim (test (ltb n 10)) [
      | inl one ↦ rw one
      | inr more ↦
          let ten : 10 ≤ n = ltb-false n 10 more in
          rw (more, places j k (n / 10) (omega arith) (omega arith))
    ]

pub decimal_one : (n : ℕ) → n < 10 → decimal n ≡ digit n ∷ []
unfolding decimal digits_in
decimal_one n h = rw (add-one, lt-ltb n 10 h)

pub decimal_more : (n : ℕ) → 10 ≤ n → decimal n ≡ decimal (n / 10) ++ (digit (n % 10) ∷ [])
unfolding decimal digits_in
decimal_more n h = rw (add-one n, le-ltb n 10 h, places n (n / 10 + 1) (n / 10) (omega arith) (omega arith))

-- a number below 10^k has at most k digits
pub decimal_most : (k n : ℕ) → n < 10 ^ suc k → length (decimal n) ≤ suc k
decimal_most zero n h = rw (decimal_one n (omega arith)) (omega arith)
decimal_most (suc k) n h =
    elim (test (ltb n 10)) [
      | inl one ↦ rw (decimal_one n (ltb-true n 10 one)) (omega arith)
      | inr more ↦
          let ten : 10 ≤ n = ltb-false n 10 more in
          let higher = decimal_most k (n / 10) (omega arith) in
          rw (decimal_more n ten, length-append) (omega arith)
    ]

last_digit : AppendsLastDigit digits_in
unfolding digits_in
last_digit =
    record {
      one = λ k n below. rw (lt-ltb n 10 below);
      more = λ k n above. rw (le-ltb n 10 above);
    }

pub decimal_printed : (n : ℕ) → n < 2 ^ 64 → decimal n ≡ Printed.decimal n
unfolding decimal
decimal_printed n h = decimal_from_appends digits_in last_digit (n + 1) n h (length-decimal-le_succ n h)

pub word_digits : (n : ℕ) → n < 2 ^ 32 → length (decimal n) ≤ most_digits
word_digits n h = rw (decimal_printed n (omega arith)) (length-decimal-le 10 n (omega arith) (omega arith) (omega arith))
