-- The two laws of the regulator: how often a flow enters in neighbouring cycles, and how long it is without a token; and
-- what a bucket that fits has and keeps. What they rest on from reset is `Regulated`, whose fields nobody else reads. Rests on specs/Regulator.
use mathlib.Core.Bool.{Bool, true, false, cond}
use mathlib.Core.Logic.{◌⊎◌, inl, inr}
use mathlib.Core.Path.{◌≡◌, refl, ap}
use Prim.Native.Nat.{ℕ, ◌+◌, ◌-◌, ◌*◌, ◌≤◌, ◌<◌}
use native.Mathlib.Nat.{mul-le-mul_right}
use native.Mathlib.Decide.{ℕ_discrete, dec_le, dec_lt}
use native.Mathlib.Omega.{arith}
use borrow.Author.Tests.{lt-ltb, le-ltb, le-leb, eq-eqb, ne_eqb, ltb-true, leb-true}
use lib.Dec.{ltb, leb}
use Rattle.laws.specs.Count.{one}
use Rattle.laws.proofs.Cases.{and_true}
use Rattle.bucket.specs.declared.Bucket.{Bucket}
use Rattle.bucket.specs.Regulator.{full_bucket, after_spend, after_count, after_cycle, bucket_fits}
use Rattle.bucket.specs.Curve.{curve}
use Rattle.bucket.proofs.Curve.{curve_counts}

-- tokens and count in one number: a cycle adds at most 1, an entry takes P
abbrev fill : ℕ → Bucket → ℕ
fill period b = b.tokens * period + b.count

-- a bucket that fits, told without tests
record Fitting (burst period : ℕ) (b : Bucket) : Type 0 where
  tokens_most : b.tokens ≤ burst
  count_below : b.count < period

-- b is a flow's bucket at clock c, c cycles after reset, and n a t is how often the flow entered in the cycles from a to t − 1.
-- `filled`: an empty bucket has a count of 1 or more, which not every bucket that fits has
pub record Regulated (burst period : ℕ) (b : Bucket) (c : ℕ) (n : ℕ → ℕ → ℕ) : Type 0 where
  burst_least : 1 ≤ burst
  fitting : Fitting burst period b
  filled : 1 ≤ fill period b
  so_far : (a : ℕ) → a ≤ c → fill period b + n a c * period + a < (burst + 1) * period + c
  before : (a t : ℕ) → a < t → t ≤ c → n a t * period + 1 + a < (burst + 1) * period + t

-- the cycles until a bucket has a token, if the flow doesn't enter
unfoldable pub wait : ℕ → Bucket → ℕ
wait period b = cond (ltb 0 b.tokens) 0 (period - b.count)

-- what the counter does in a cycle: it runs, or it is round and gives a token, which a full bucket loses
data Counted (burst period : ℕ) (b r : Bucket) : Type 0 where
  runs : b.count + 1 < period → r.tokens ≡ b.tokens → r.count ≡ b.count + 1 → Counted burst period b r
  gives : b.count + 1 ≡ period → b.tokens < burst → r.tokens ≡ b.tokens + 1 → r.count ≡ 0 → Counted burst period b r
  loses : b.count + 1 ≡ period → b.tokens ≡ burst → r.tokens ≡ b.tokens → r.count ≡ 0 → Counted burst period b r

module _ (burst period : ℕ) where
  fitting : (b : Bucket) → bucket_fits burst period b ≡ true → Fitting burst period b
  unfolding bucket_fits
  fitting b e =
      let both = and_true (leb b.tokens burst) (ltb b.count period) e in
      record { tokens_most = leb-true _ _ both.0; count_below = ltb-true _ _ both.1 }

  fitting_fits : (b : Bucket) → Fitting burst period b → bucket_fits burst period b ≡ true
  unfolding bucket_fits
  fitting_fits b h = rw (le-leb b.tokens burst h.tokens_most, lt-ltb b.count period h.count_below)

  counted : (b : Bucket) → Fitting burst period b → Counted burst period b (after_count burst period b)
  unfolding after_count
  counted b h =
      elim (ℕ_discrete (b.count + 1) period) [
        | yes e ↦ elim (dec_lt b.tokens burst) [
          | yes l ↦ rw (eq-eqb (b.count + 1) period e, lt-ltb b.tokens burst l) (gives e l refl refl)
          | no l ↦ rw (eq-eqb (b.count + 1) period e, le-ltb b.tokens burst (omega arith)) (loses e (omega (arith, h.tokens_most)) refl refl)
        ]
        | no e ↦ rw (ne_eqb (b.count + 1) period e) (runs (omega (arith, h.count_below)) refl refl)
      ]

  -- a bucket that fits, after the counter, and after an entry or none
  counted_fits : (b r : Bucket) → Fitting burst period b → Counted burst period b r → Fitting burst period r
  counted_fits b r h (runs e t c) = record { tokens_most = omega (arith, h.tokens_most); count_below = omega arith }
  counted_fits b r h (gives e l t c) = record { tokens_most = omega arith; count_below = omega arith }
  counted_fits b r h (loses e l t c) = record { tokens_most = omega arith; count_below = omega arith }

  -- the counter takes no token
  counted_tokens : (b r : Bucket) → Counted burst period b r → b.tokens ≤ r.tokens
  counted_tokens b r (runs e t c) = omega arith
  counted_tokens b r (gives e l t c) = omega arith
  counted_tokens b r (loses e l t c) = omega arith

  spent_fits : (e : Bool) (b : Bucket) → Fitting burst period b → Fitting burst period (cond e (after_spend b) b)
  spent_fits true b h = record { tokens_most = omega (arith, h.tokens_most); count_below = h.count_below }
  spent_fits false b h = h

  fill_most : (b : Bucket) → Fitting burst period b → fill period b < (burst + 1) * period
  fill_most b h = omega (arith, h.count_below, mul-le-mul_right period h.tokens_most)

  -- no wait with a token; without one, until the counter is round
  abbrev Waits : Bucket → Type 0
  Waits b = ((1 ≤ b.tokens) × (wait period b ≡ 0)) ⊎ ((b.tokens ≡ 0) × (wait period b ≡ period - b.count))

  wait_cases : (b : Bucket) → Waits b
  unfolding wait
  wait_cases b =
      elim (dec_lt 0 b.tokens) [
        | yes l ↦ inl (l, rw (lt-ltb 0 b.tokens l))
        | no l ↦ inr (omega arith, rw (le-ltb 0 b.tokens (omega arith)))
      ]

  -- a bucket r after a cycle of b in which the flow entered or not
  record Cycled (e : Bool) (b r : Bucket) : Type 0 where
    fill_more : fill period r + one e * period ≤ fill period b + 1
    filled : 1 ≤ fill period r

  -- the counter's part
  ran : 1 ≤ burst → (b r : Bucket) → Counted burst period b r → Cycled false b r
  ran h b r (runs e t c) =
      let fills : r.tokens * period ≡ b.tokens * period = ap (λ (x : ℕ). x * period) t in
      record { fill_more = omega arith; filled = omega arith }
  ran h b r (gives e l t c) =
      let fills : r.tokens * period ≡ (b.tokens + 1) * period = ap (λ (x : ℕ). x * period) t in
      record { fill_more = omega arith; filled = omega arith }
  ran h b r (loses e l t c) =
      let fills : r.tokens * period ≡ b.tokens * period = ap (λ (x : ℕ). x * period) t in
      let some : 1 ≤ b.tokens = omega arith in
      record { fill_more = omega arith; filled = omega (arith, mul-le-mul_right period some) }

  cycled : 1 ≤ burst → (e : Bool) (b : Bucket) → Fitting burst period b → (e ≡ true → 1 ≤ b.tokens) → Cycled e b (after_cycle burst period e b)
  unfolding after_cycle
  cycled least true b h token =
      let some : 1 ≤ b.tokens = token refl in
      let ran' = ran least (after_spend b) _ (counted (after_spend b) (spent_fits true b h)) in
      let spent : b.tokens * period ≡ (b.tokens - 1 + 1) * period = ap (λ (x : ℕ). x * period) (omega arith) in
      record { fill_more = omega (arith, ran'.fill_more); filled = ran'.filled }
  cycled least false b h token = ran least b _ (counted b h)

  cycled_fits : (e : Bool) (b : Bucket) → Fitting burst period b → Fitting burst period (after_cycle burst period e b)
  unfolding after_cycle
  cycled_fits e b h = let spent = spent_fits e b h in counted_fits _ _ spent (counted _ spent)

  module _ (b : Bucket) (c : ℕ) (n : ℕ → ℕ → ℕ) (held : Regulated burst period b c n) where
    -- a cycle, and the entries so far with the one of this cycle
    pub cycle : (e : Bool) → (e ≡ true → 1 ≤ b.tokens) → (n' : ℕ → ℕ → ℕ)
        → ((a t : ℕ) → t ≤ c → n' a t ≡ n a t) → ((a : ℕ) → a ≤ c → n' a (c + 1) ≡ n a c + one e) → n' (c + 1) (c + 1) ≡ 0
        → Regulated burst period (after_cycle burst period e b) (c + 1) n'
    cycle e token n' old new none =
        record { burst_least = held.burst_least; fitting = after; filled = r.filled; so_far = far; before = past }
      where
        r : Cycled e b (after_cycle burst period e b)
        r = cycled held.burst_least e b held.fitting token

        after : Fitting burst period (after_cycle burst period e b)
        after = cycled_fits e b held.fitting

        far : (a : ℕ) → a ≤ c + 1 → fill period (after_cycle burst period e b) + n' a (c + 1) * period + a < (burst + 1) * period + (c + 1)
        far a l =
            elim (dec_le a c) [
              | yes m ↦ omega (arith, held.so_far a m, ap (λ (x : ℕ). x * period) (new a m), r.fill_more)
              | no m ↦
                  let now : a ≡ c + 1 = omega arith in
                  rw (now, none) (omega (arith, fill_most (after_cycle burst period e b) after))
            ]

        past : (a t : ℕ) → a < t → t ≤ c + 1 → n' a t * period + 1 + a < (burst + 1) * period + t
        past a t l m =
            elim (dec_le t c) [
              | yes k ↦ rw (old a t k) (held.before a t l k)
              | no k ↦ let now : t ≡ c + 1 = omega arith in rw now (omega (arith, far a (omega arith), r.filled))
            ]

    -- the entries counted another way
    pub recount : (n' : ℕ → ℕ → ℕ) → ((a t : ℕ) → n' a t ≡ n a t) → Regulated burst period b c n'
    recount n' same =
        record {
          burst_least = held.burst_least;
          fitting = held.fitting;
          filled = held.filled;
          so_far = λ a l. rw (same a c) (held.so_far a l);
          before = λ a t l m. rw (same a t) (held.before a t l m);
        }

    -- in L ≥ 1 neighbouring cycles a flow enters at most curve (L − 1) times
    pub enters_at_most : (a t d : ℕ) → a < t → t ≤ c → t ≤ a + 1 + d → n a t ≤ curve burst period d
    enters_at_most a t d l m k = curve_counts burst period d (n a t) (omega (arith, held.fitting.count_below)) (omega (arith, held.before a t l m))

    -- a flow is without a token for at most P − 1 cycles
    pub wait_most : wait period b < period
    wait_most =
        elim (wait_cases b) [
          | inl h ↦ omega (arith, held.fitting.count_below)
          | inr h ↦ omega (arith, held.fitting.count_below, held.filled, ap (λ (x : ℕ). x * period) h.0)
        ]

    pub wait_some : b.tokens ≡ 0 → 1 ≤ wait period b
    wait_some none = elim (wait_cases b) [ inl h ↦ absurd (omega arith) | inr h ↦ omega (arith, held.fitting.count_below) ]

    -- without an entry the wait is one less each cycle
    pub wait_less_lem : 1 ≤ burst → b.tokens ≡ 0 → wait period (after_cycle burst period false b) + 1 ≡ wait period b
    unfolding after_cycle
    wait_less_lem h none = less (counted b held.fitting) (wait_cases (after_count burst period b)) (wait_cases b)
      where
        less : Counted burst period b (after_count burst period b) → Waits (after_count burst period b) → Waits b
            → wait period (after_count burst period b) + 1 ≡ wait period b
        less (runs e t c) (inl u) (inr v) = absurd (omega arith)
        less (runs e t c) (inr u) (inr v) = omega arith
        less (gives e l t c) (inl u) (inr v) = omega arith
        less (gives e l t c) (inr u) (inr v) = absurd (omega arith)
        less (loses e l t c) w (inr v) = absurd (omega arith)
        less counted' w (inl v) = absurd (omega arith)

    -- only an entry takes a token
    pub tokens_cycle : (e : Bool) → b.tokens ≤ (after_cycle burst period e b).tokens + one e
    unfolding after_cycle
    tokens_cycle true = let more = counted_tokens _ _ (counted (after_spend b) (spent_fits true b held.fitting)) in omega arith
    tokens_cycle false = let more = counted_tokens _ _ (counted b held.fitting) in omega arith

    -- without one, a token stays
    pub token_stays : 1 ≤ b.tokens → 1 ≤ (after_cycle burst period false b).tokens
    token_stays some = let more = tokens_cycle false in omega arith

    pub fits : bucket_fits burst period b ≡ true
    fits = fitting_fits b held.fitting

  -- a bucket that fits has a count below the period, and fits after a cycle
  pub fitting_count : (b : Bucket) → bucket_fits burst period b ≡ true → b.count < period
  fitting_count b e = (fitting b e).count_below

  pub cycle_fits : (e : Bool) (b : Bucket) → bucket_fits burst period b ≡ true → bucket_fits burst period (after_cycle burst period e b) ≡ true
  cycle_fits e b h = fitting_fits _ (cycled_fits e b (fitting b h))

  -- the bucket at reset
  pub full_fits : 1 ≤ period → bucket_fits burst period (full_bucket burst) ≡ true
  unfolding bucket_fits
  full_fits k = rw (le-leb burst burst (omega arith), lt-ltb 0 period k)

  pub reset : 1 ≤ burst → 1 ≤ period → (n : ℕ → ℕ → ℕ) → n 0 0 ≡ 0 → Regulated burst period (full_bucket burst) 0 n
  reset h k n none =
      record {
        burst_least = h;
        fitting = record { tokens_most = omega arith; count_below = k };
        filled = omega (arith, mul-le-mul_right period h);
        so_far = λ a l. let first : a ≡ 0 = omega arith in rw (first, none) (omega arith);
        before = λ a t l m. absurd (omega arith);
      }
