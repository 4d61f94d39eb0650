-- Laws of the curve: it never falls with the span, is at least the burst and at most burst and span together, keeps pace with one
-- packet a period, and counts what a bucket lets in. Rests on specs/Curve. Windows use these laws; only the starred cases, which
-- compute, open the curve elsewhere.
use mathlib.Core.Logic.{◌↔◌}
use mathlib.Core.Path.{◌≡◌}
use Prim.Native.Nat.{ℕ, zero, suc, ◌+◌, ◌-◌, ◌*◌, ◌/◌, ◌%◌, ◌≤◌, ◌<◌}
use native.Mathlib.Nat.{div-zero, div-lt_iff_lt-mul, div-mul-le_self, mod-eq-sub-div-mul, mod-lt, le_trans}
use native.Mathlib.Nat.{mul-le-mul_right, le-mul_of_pos_right, lt_of_mul-lt-mul_right, le_of_mul-le-mul_right}
use native.Mathlib.Omega.{arith}
use Rattle.std.specs.Int.{div_ceil}
use Rattle.std.proofs.lemmas.Grind.{div_ceil_times}
use Rattle.bucket.specs.Curve.{ceiling, curve}

-- ⌈d/P⌉ is the least k with d ≤ k×P
pub ceiling_least : (d period k : ℕ) → 1 ≤ period → (ceiling d period ≤ k) ↔ (d ≤ k * period)
unfolding ceiling
ceiling_least d period k p =
    let below = div-lt_iff_lt-mul {k = period} {x = d + (period - 1)} {y = k + 1} p in
    (λ l. omega (arith, below.0 (omega arith)), λ l. omega (arith, below.1 (omega arith)))

-- the periods of ⌈d/P⌉ cover d
covers : (d period : ℕ) → 1 ≤ period → d ≤ ceiling d period * period
covers d period p = (ceiling_least d period (ceiling d period) p).0 (omega arith)

ceiling_span : (period : ℕ) {d e : ℕ} → d ≤ e → ceiling d period ≤ ceiling e period
unfolding ceiling
ceiling_span zero {d} {e} h = omega (arith, div-zero (d + (0 - 1)), div-zero (e + (0 - 1)))
ceiling_span (suc p) {d} {e} h = (ceiling_least d (suc p) (ceiling e (suc p)) (omega arith)).1 (le_trans h (covers e (suc p) (omega arith)))

ceiling_most : (d period : ℕ) → ceiling d period ≤ d
unfolding ceiling
ceiling_most d zero = omega (arith, div-zero (d + (0 - 1)))
ceiling_most d (suc p) = (ceiling_least d (suc p) d (omega arith)).1 (le-mul_of_pos_right d (omega arith))

pub curve_span : (burst period : ℕ) {d e : ℕ} → d ≤ e → curve burst period d ≤ curve burst period e
unfolding curve
curve_span burst period h = omega (arith, ceiling_span period h)

pub curve_least : (burst period d : ℕ) → burst ≤ curve burst period d
unfolding curve
curve_least burst period d = omega arith

pub curve_most : (burst period d : ℕ) → curve burst period d ≤ burst + d
unfolding curve
curve_most burst period d = omega (arith, ceiling_most d period)

pub curve_pace : (burst period d : ℕ) → 1 ≤ burst → 1 ≤ period → d < curve burst period d * period
unfolding curve
curve_pace burst period d b p = omega (arith, covers d period p, mul-le-mul_right period b)

-- ⌈d/P⌉ as the whole periods in d, and one more where there is a part of one
pub curve_by_div : (burst period d : ℕ) → 1 ≤ period → burst + div_ceil d period ≡ curve burst period d
unfolding curve
curve_by_div burst period d p =
    let times = div_ceil_times d period p in
    let most = (ceiling_least d period (div_ceil d period) p).1 times.0 in
    let least : div_ceil d period < ceiling d period + 1 = lt_of_mul-lt-mul_right period (omega (arith, covers d period p, times.1)) in
    omega arith

-- σ and the whole periods in d, and one more where there is a part of one
pub curve_whole : (burst period d : ℕ) → 1 ≤ period → d % period ≡ 0 → burst + d / period ≡ curve burst period d
unfolding curve
curve_whole burst period d p none =
    let whole : d ≡ d / period * period = omega (arith, div-mul-le_self d period, mod-eq-sub-div-mul d period) in
    let most = (ceiling_least d period (d / period) p).1 (omega arith) in
    let least : d / period ≤ ceiling d period = le_of_mul-le-mul_right {k = period} (omega (arith, covers d period p)) p in
    omega arith

pub curve_part : (burst period d : ℕ) → 1 ≤ period → 1 ≤ d % period → burst + d / period + 1 ≡ curve burst period d
unfolding curve
curve_part burst period d p some =
    let part = mod-eq-sub-div-mul d period in
    let most = (ceiling_least d period (d / period + 1) p).1 (omega (arith, mod-lt d p)) in
    let more : d / period < ceiling d period = lt_of_mul-lt-mul_right period (omega (arith, covers d period p)) in
    omega arith

-- a bucket that holds under σ + 1 periods' worth and gets d more lets in no more than the curve
pub curve_counts : (burst period d n : ℕ) → 1 ≤ period → n * period < (burst + 1) * period + d → n ≤ curve burst period d
unfolding curve
curve_counts burst period d n p h =
    let below : n < burst + 1 + ceiling d period = lt_of_mul-lt-mul_right period (omega (arith, covers d period p)) in
    omega arith
