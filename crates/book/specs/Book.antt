-- The packet book: a clock, each flow's bucket and a line per accepted packet, its start and its offer (01, The packet book).
use Rattle.std.specs.Prelude.{Bool, not, ◌&&◌, List, [], ◌∷◌, ◌++◌, ℕ, ◌+◌, eqb, length, get_or}
use Rattle.laws.specs.Bounded.{tabulate}
use Rattle.laws.specs.Turns.{turns}
use Rattle.laws.specs.Count.{count}
use Rattle.flow.specs.Plan.{Plan, flow_at}
use Rattle.bucket.specs.declared.Bucket.{Bucket}
use Rattle.bucket.specs.Regulator.{full_bucket}
use Rattle.book.specs.Line.{Line, waiting, is_waiting}

-- the lines stand in the order of their offers
pub record Book : Type 0 where
  pub clock : ℕ
  pub buckets : List Bucket
  pub lines : List Line

-- the bucket of flow f
abbrev pub bucket_at : Book → ℕ → Bucket
bucket_at b f = get_or b.buckets f (full_bucket 0)

-- clock 0, no lines, each bucket with σ tokens and count 0
abbrev pub start : Plan → Book
start p =
    record { clock = 0; buckets = tabulate (length p.flows) (λ f. full_bucket (flow_at p f).burst); lines = [] }

-- a line of flow f
abbrev pub of_flow : ℕ → Line → Bool
of_flow f l = eqb l.flow f

-- a waiting line of flow f
abbrev pub waits_for : ℕ → Line → Bool
waits_for f l = of_flow f l && is_waiting l.stage

-- a line of flow f with an entry
abbrev pub entered_for : ℕ → Line → Bool
entered_for f l = of_flow f l && not (is_waiting l.stage)

-- the flow's lines so far
abbrev pub total_of : Book → ℕ → ℕ
total_of b f = count (of_flow f) b.lines

-- its waiting lines so far
abbrev pub waiting_of : Book → ℕ → ℕ
waiting_of b f = count (waits_for f) b.lines

-- its lines with an entry
abbrev pub entered_of : Book → ℕ → ℕ
entered_of b f = count (entered_for f) b.lines

-- serial is one more than the flow's lines so far, q its waiting lines so far, offer the clock, D 0
abbrev pub offered_line : Book → ℕ → Line
offered_line b f =
    record { flow = f; serial = total_of b f + 1; offer = b.clock; q = waiting_of b f; D = 0; stage = waiting }

-- an offer adds a waiting line
abbrev pub offered : Book → ℕ → Book
offered b f =
    record { clock = b.clock; buckets = b.buckets; lines = b.lines ++ (offered_line b f ∷ []) }

-- a set adds a waiting line for each of its entries, in their order, here for the first n: so q counts the earlier entries of the same
-- flow too
abbrev pub offered_first : Book → (flows : List ℕ) → (n : ℕ) → Book
offered_first b flows n = turns n (λ k now. offered now (get_or flows k 0)) b
