-- A flow's regulator, a bucket of tokens with a counter (01, One cycle, rules 3 and 4, with 02's U3; The packet book, Start).
use Rattle.std.specs.Prelude.{Bool, cond, ◌&&◌, ℕ, ◌+◌, ◌-◌, ltb, leb, eqb}
use Rattle.bucket.specs.declared.Bucket.{Bucket}

-- at reset: σ tokens, count 0
abbrev pub full_bucket : ℕ → Bucket
full_bucket burst = record { tokens = burst; count = 0 }

-- an entry takes a token
abbrev pub after_spend : Bucket → Bucket
after_spend b = record { tokens = b.tokens - 1; count = b.count }

-- "a token that finds it full is lost"
abbrev pub with_token : ℕ → ℕ → ℕ
with_token burst tokens = cond (ltb tokens burst) (tokens + 1) tokens

-- "count advances every cycle and returns to 0 at P", which gives a token
unfoldable pub after_count : ℕ → ℕ → Bucket → Bucket
after_count burst period b =
    cond (eqb (b.count + 1) period)
    (record { tokens = with_token burst b.tokens; count = 0 })
    (record { tokens = b.tokens; count = b.count + 1 })

-- the next state follows from the old one: after entry, the counter
unfoldable pub after_cycle : ℕ → ℕ → Bool → Bucket → Bucket
after_cycle burst period entered b = after_count burst period (cond entered (after_spend b) b)

-- in words that form a state: tokens ≤ σ; count < P. "the state no longer needs count 0 at a full bucket"
unfoldable pub bucket_fits : ℕ → ℕ → Bucket → Bool
bucket_fits burst period b = leb b.tokens burst && ltb b.count period
