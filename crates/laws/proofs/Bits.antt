-- Laws of a word's bits: their number among its lowest, and those of a part of it, of a word set twice, of two words together and of a
-- power of 2. Rests on specs/Bits.
use mathlib.Core.Bool.{false, ◌||◌}
use mathlib.Core.Logic.{◌≢◌}
use mathlib.Core.Path.{◌≡◌, refl, sym, ap, ap₂, ◌∙◌}
use Prim.Native.Nat.{ℕ, zero, suc, ◌+◌, ◌-◌, ◌*◌, ◌/◌, ◌%◌, ◌^◌, ◌≤◌, ◌<◌}
use native.Mathlib.Nat.{mod-lt, mod-eq_of_lt, mod-one, add-mod_left, div-eq_of_lt, zero-div, one-mul, lt_of_lt_of_le}
use native.Mathlib.Decide.{ℕ_discrete, dec_lt}
use native.Mathlib.Omega.{arith}
use borrow.Author.Tests.{eq-eqb, ne_eqb}
use lib.Bits.{bit_or, or_shr, or_mod, shifted_even}
use lib.Count.{ones, ones_cat}
use lib.Dec.{eqb}
use lib.Pow.{pow_mono, pow_pos, pow-add, pow-lt, shr-shr, mod-pow-add, mod-mod-pow, field, high, low, shl-shr}
use Rattle.laws.specs.Bits.{is_set}
use Rattle.laws.specs.Bounded.{sum_below}
use Rattle.laws.specs.Count.{one}
use Rattle.laws.proofs.Sum.{sum_none, sum_more}

-- a bit as a number
digit_one : (d : ℕ) → d < 2 → one (eqb d 1) ≡ d
digit_one zero h = refl
digit_one (suc zero) h = refl
digit_one (suc (suc d)) h = absurd (omega arith)

one_set : (word k : ℕ) → one (is_set word k) ≡ word / 2 ^ k % 2
unfolding is_set
one_set word k = digit_one (word / 2 ^ k % 2) (mod-lt (word / 2 ^ k) (omega arith))

ones_digit : (d : ℕ) → d < 2 → ones d ≡ d
unfolding ones
ones_digit zero h = refl
ones_digit (suc zero) h = refl
ones_digit (suc (suc d)) h = absurd (omega arith)

-- as many ones among the lowest r bits as are set
pub ones_set : (word r : ℕ) → ones (word % 2 ^ r) ≡ sum_below r (λ k. one (is_set word k))
ones_set word zero = ap ones (mod-one word) ∙ ones_digit 0 (omega arith) ∙ sym (sum_none (λ k. one (is_set word k)))
ones_set word (suc r) =
    let set : ℕ → ℕ = λ k. one (is_set word k) in
    let bit : ℕ = word / 2 ^ r % 2 in
    let last : suc r ≡ r + 1 = omega arith in
    let first : suc r ≡ 1 + r = omega arith in
    let digit = ones_digit bit (mod-lt (word / 2 ^ r) (omega arith)) in
    let sum : ones bit + ones (word % 2 ^ r) ≡ sum_below r set + set r = omega (arith, one_set word r, ones_set word r) in
    ap (λ (m : ℕ). ones (word % 2 ^ m)) first ∙ ap ones (mod-pow-add word 1 r) ∙ ones_cat r bit (word % 2 ^ r) (mod-lt word (pow_pos r))
    ∙ sum ∙ sym (ap (λ (m : ℕ). sum_below m set) last ∙ sum_more set r)

-- a word without its lowest j bits
pub set_shifted : (word j k : ℕ) → is_set (word / 2 ^ j) k ≡ is_set word (j + k)
unfolding is_set
set_shifted word j k = ap (λ (n : ℕ). eqb (n % 2) 1) (shr-shr word j k)

-- bit k depends on the lowest k + 1 bits
set_low : (v w k : ℕ) → v % 2 ^ (1 + k) ≡ w % 2 ^ (1 + k) → is_set v k ≡ is_set w k
unfolding is_set
set_low v w k e = ap (λ (n : ℕ). eqb n 1) (sym (field v 1 k) ∙ ap (λ (n : ℕ). n / 2 ^ k) e ∙ field w 1 k)

-- a word of n bits twice, end to end
pub set_twice : (word n k : ℕ) → word < 2 ^ n → k < n + n → is_set (word * 2 ^ n + word) k ≡ is_set word (k % n)
set_twice word n k below on =
    let twice : ℕ = word * 2 ^ n + word in
    elim (dec_lt k n) [
      | yes first ↦
          let rest : n - (1 + k) + (1 + k) ≡ n = omega arith in
          rw (mod-eq_of_lt {n = k} {m = n} first)
          (set_low twice word k
          (sym (mod-mod-pow twice (n - (1 + k)) (1 + k)) ∙ ap (λ (m : ℕ). twice % 2 ^ m % 2 ^ (1 + k)) rest
          ∙ ap (λ (v : ℕ). v % 2 ^ (1 + k)) (low word n below)))
      | no second ↦
          let back : n + (k - n) ≡ k = omega arith in
          let round : k % n ≡ k - n = ap (λ (m : ℕ). m % n) (sym back) ∙ add-mod_left n (k - n) ∙ mod-eq_of_lt {n = k - n} {m = n} (omega arith) in
          ap (is_set twice) (sym back) ∙ sym (set_shifted twice n (k - n)) ∙ ap₂ is_set (high word n below) (sym round)
    ]

or_digit : (a b : ℕ) → a < 2 → b < 2 → eqb (bit_or a b) 1 ≡ eqb a 1 || eqb b 1
or_digit zero zero h l = refl
or_digit zero (suc zero) h l = refl
or_digit (suc zero) zero h l = refl
or_digit (suc zero) (suc zero) h l = refl
or_digit (suc (suc a)) b h l = absurd (omega arith)
or_digit zero (suc (suc b)) h l = absurd (omega arith)
or_digit (suc zero) (suc (suc b)) h l = absurd (omega arith)

-- the bits of either word
pub set_or : (v w k : ℕ) → is_set (bit_or v w) k ≡ is_set v k || is_set w k
unfolding is_set
set_or v w k =
    ap (λ (n : ℕ). eqb n 1) (ap (λ (n : ℕ). n % 2) (or_shr v w k) ∙ or_mod (v / 2 ^ k) (w / 2 ^ k) 1)
    ∙ or_digit (v / 2 ^ k % 2) (w / 2 ^ k % 2) (mod-lt (v / 2 ^ k) (omega arith)) (mod-lt (w / 2 ^ k) (omega arith))

own_bit : (k : ℕ) → 2 ^ k / 2 ^ k % 2 ≡ 1
own_bit k = ap (λ (m : ℕ). m / 2 ^ k % 2) (sym (one-mul (2 ^ k))) ∙ ap (λ (m : ℕ). m % 2) (shl-shr 1 k)

-- a power of 2 has one bit
other_bit : (j k : ℕ) → j ≢ k → 2 ^ j / 2 ^ k % 2 ≡ 0
other_bit j k other =
    elim (dec_lt k j) [
      | yes above ↦
          let up : j ≡ suc (j - k - 1) + k = omega arith in
          ap (λ (m : ℕ). 2 ^ m / 2 ^ k % 2) up
          ∙ ap (λ (m : ℕ). m / 2 ^ k % 2) (pow-add 2 (suc (j - k - 1)) k)
          ∙ ap (λ (m : ℕ). m % 2) (shl-shr (2 ^ suc (j - k - 1)) k)
          ∙ ap (λ (m : ℕ). m % 2) (sym (one-mul (2 ^ suc (j - k - 1)))) ∙ shifted_even 1 (j - k - 1)
      | no below ↦ ap (λ (m : ℕ). m % 2) (div-eq_of_lt (pow-lt {i = j} {j = k} (omega arith)))
    ]

pub set_power : (j k : ℕ) → is_set (2 ^ j) k ≡ eqb j k
unfolding is_set
set_power j k =
    elim (ℕ_discrete j k) [
      | yes same ↦ rw (eq-eqb j k same, same, own_bit k)
      | no other ↦ rw (ne_eqb j k other, other_bit j k other)
    ]

-- a word of n bits has none above them
pub set_above : (word n k : ℕ) → word < 2 ^ n → n ≤ k → is_set word k ≡ false
unfolding is_set
set_above word n k below above = rw (div-eq_of_lt {n = word} {m = 2 ^ k} (lt_of_lt_of_le below (pow_mono above)))

pub set_none : (k : ℕ) → is_set 0 k ≡ false
unfolding is_set
set_none k = rw (zero-div (2 ^ k))
