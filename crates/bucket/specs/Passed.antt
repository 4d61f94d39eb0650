-- A regulator after k cycles without an entry, in one go: what so many cycles one after the other come to (proofs/Passed).
use Rattle.std.specs.Prelude.{cond, ℕ, ◌+◌, ◌/◌, ◌%◌, ltb}
use Rattle.bucket.specs.declared.Bucket.{Bucket}

-- so many tokens, but no more than σ: "a token that finds it full is lost" (02, U3)
abbrev pub up_to : (burst tokens : ℕ) → ℕ
up_to burst tokens = cond (ltb tokens burst) tokens burst

-- the counter's whole periods give tokens, the rest stays in the counter
unfoldable pub after_cycles : (burst period k : ℕ) → Bucket → Bucket
after_cycles burst period k b =
    record { tokens = up_to burst (b.tokens + (b.count + k) / period); count = (b.count + k) % period }
