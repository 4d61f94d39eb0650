-- The bytes of a record and of a trailer, from the numbers that are written. Rests on specs/Parts, plan's bytes and the laws of stores.
use mathlib.Core.List.{List, [], ◌∷◌, ◌++◌, map}
use mathlib.Core.Path.{◌≡◌, ap, ◌∙◌}
use Prim.Native.Nat.{ℕ, ◌+◌, ◌/◌, ◌%◌, ◌<◌}
use native.Mathlib.Nat.{mod-eq_of_lt}
use native.Mathlib.Omega.{arith}
use lib.Seq.{sets}
use Rattle.std.proofs.Common.{w32}
use Rattle.std.specs.Int.{to_le_bytes}
use Rattle.laws.proofs.Stands.{sets_append}
use Rattle.flow.specs.declared.Flow.{Flow}
use Rattle.flow.specs.Plan.{most_size}
use Rattle.flow.specs.Ranges.{FlowOk}
use Rattle.file.specs.Layout.{tag}
use Rattle.file.specs.Bytes.{third_byte, two_bytes, four_bytes}
use Rattle.plan.specs.Written.{record_bytes}
use Rattle.writing.specs.Parts.{low_byte}

byte : (n : ℕ) → n < 256 → n % 256 ≡ n
byte n h = mod-eq_of_lt {n = n} {m = 256} h

-- the bytes of a record are the low ones of its numbers
pub record_is : (f : Flow) → FlowOk most_size most_size f
    → map low_byte (f.xs ∷ f.ys ∷ f.xd ∷ f.yd ∷ f.period ∷ f.period / 256 ∷ f.burst ∷ f.period / third_byte ∷ []) ≡ record_bytes f
unfolding record_bytes two_bytes
record_is f ok =
    rw (
      byte f.xs (omega (arith, ok.xs_on)),
      byte f.ys (omega (arith, ok.ys_on)),
      byte f.xd (omega (arith, ok.xd_on)),
      byte f.yd (omega (arith, ok.yd_on)),
      byte f.burst (omega (arith, ok.burst_most)),
      byte (f.period / third_byte) (omega (arith, ok.period_most)),
    )

-- the bytes of a start
pub start_is : (n : ℕ) → to_le_bytes w32 n ≡ four_bytes n
unfolding four_bytes two_bytes
start_is n =
    let a : n % third_byte % 256 ≡ n % 256 = omega arith in
    let b : n % third_byte / 256 % 256 ≡ n / 256 % 256 = omega arith in
    let c : n / third_byte / 256 % 256 ≡ n / 16777216 % 256 = omega arith in
    rw (a, b, c)

pub trailer_sets : (l : List ℕ) (at start count sx sy : ℕ)
    → sets (sets (sets l at (four_bytes start)) (at + 4) (two_bytes count ++ (sx ∷ sy ∷ []))) (at + 8) tag
    ≡ sets l at (four_bytes start ++ (two_bytes count ++ (sx ∷ sy ∷ [])) ++ tag)
unfolding four_bytes two_bytes
trailer_sets l at start count sx sy =
    let first = four_bytes start in
    let second = two_bytes count ++ (sx ∷ sy ∷ []) in
    ap (λ m. sets m (at + 8) tag) (sets_append l at first second) ∙ sets_append l at (first ++ second) tag
