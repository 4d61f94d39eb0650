-- Where a plan file has its numbers (01, Torus and plan file): notes, flow records of 8 bytes, a trailer of 12.
use Rattle.std.specs.Prelude.{Bool, List, [], ◌∷◌, ℕ, ◌+◌, ◌-◌, ◌*◌, eqb, length, get_or}
use Rattle.laws.specs.Bounded.{all_below, tabulate}
use Rattle.flow.specs.declared.Flow.{Flow}
use Rattle.flow.specs.Plan.{Plan, flow_with}
use Rattle.file.specs.declared.Trailer.{Trailer}
use Rattle.file.specs.Bytes.{third_byte, little_endian2, little_endian4}

-- a plan file has at most 65,536 bytes
abbrev pub most_file : ℕ
most_file = 65536

abbrev pub record_size : ℕ
record_size = 8

abbrev pub trailer_size : ℕ
trailer_size = 12

-- the ASCII bytes "HRTP"
abbrev pub tag : List ℕ
tag = 72 ∷ 82 ∷ 84 ∷ 80 ∷ []

-- the last four bytes are the tag
unfoldable pub tagged : List ℕ → Bool
tagged file = all_below 4 (λ k. eqb (get_or file (length file - 4 + k) 0) (get_or tag k 0))

-- start of the first record (4 bytes), count F (2 bytes), Sx, Sy (one byte each)
unfoldable pub trailer_of : List ℕ → Trailer
trailer_of file =
    let at = length file - trailer_size in
    record {
      start = little_endian4 file at;
      count = little_endian2 file (at + 4);
      sx = get_or file (at + 6) 0;
      sy = get_or file (at + 7) 0;
    }

-- the period P of the record at a place; the record's last byte is the top byte of P (02, U5)
unfoldable pub period_at : List ℕ → ℕ → ℕ
period_at file at = little_endian2 file (at + 4) + third_byte * get_or file (at + 7) 0

-- a record: xs, ys, xd, yd (one byte each), two bytes of the period P, burst σ (one byte), the top byte of P
unfoldable pub flow_from : List ℕ → ℕ → Flow
flow_from file at =
    flow_with (get_or file at 0) (get_or file (at + 1) 0) (get_or file (at + 2) 0) (get_or file (at + 3) 0)
    (period_at file at) (get_or file (at + 6) 0)

-- where the record of flow f stands
abbrev pub record_at : Trailer → ℕ → ℕ
record_at t f = t.start + record_size * f

-- the plan that a file has
unfoldable pub plan_of : List ℕ → Plan
plan_of file =
    let t = trailer_of file in
    record { sx = t.sx; sy = t.sy; flows = tabulate t.count (λ f. flow_from file (record_at t f)) }
