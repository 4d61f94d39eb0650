-- What a plan file is refused for (01, When a call says no): 1 to 5, then flow by flow 6 before 7.
use Rattle.std.specs.Prelude.{Bool, cond, not, ◌&&◌, ◌||◌, List, ℕ, zero, suc, ◌+◌, ◌-◌, ◌*◌, ltb, leb, eqb, length}
use Rattle.flow.specs.declared.Flow.{Flow}
use Rattle.flow.specs.Plan.{on_torus, most_size, most_flows}
use Rattle.refusal.specs.Answer.{Answer, Done, Refused}
use Rattle.file.specs.declared.Trailer.{Trailer}
use Rattle.file.specs.Layout.{most_file, trailer_size, record_size, tagged, trailer_of, flow_from, record_at}

-- an accepted call's 0 for number 0, or the refusal with its place
abbrev pub answer_by : ℕ → ℕ → Answer
answer_by zero place = Done 0
answer_by (suc n) place = Refused (suc n) place

-- a refusal comes before whatever is checked later
abbrev pub refused_or : Answer → Answer → Answer
refused_or (Done v) later = later
refused_or (Refused number place) later = Refused number place

-- Sx and Sy are 1..16
abbrev pub size_ok : ℕ → Bool
size_ok s = leb 1 s && leb s most_size

-- 3: Sx or Sy outside 1..16; 4: count 0 or over 256; 5: start doesn't match length
unfoldable pub header_number : Trailer → ℕ → ℕ
header_number t len =
    cond (not (size_ok t.sx && size_ok t.sy)) 3
    (cond (eqb t.count 0 || ltb most_flows t.count) 4
    (cond (not (eqb (t.start + record_size * t.count) (len - trailer_size))) 5 0))

-- 1: under 12 or over 65,536 bytes; 2: last four bytes aren't the tag
unfoldable pub trailer_number : List ℕ → ℕ
trailer_number file =
    cond (ltb (length file) trailer_size || ltb most_file (length file)) 1
    (cond (not (tagged file)) 2
    (header_number (trailer_of file) (length file)))

-- 6: coordinate off the torus; 7: P or σ zero
unfoldable pub record_number : ℕ → ℕ → Flow → ℕ
record_number sx sy f =
    cond (not (on_torus sx sy f)) 6
    (cond (eqb f.period 0 || eqb f.burst 0) 7 0)

-- the first of n places whose number is not 0, with that number
unfoldable pub first_refused : (ℕ → ℕ) → ℕ → Answer
first_refused number zero = Done 0
first_refused number (suc n) = refused_or (first_refused number n) (answer_by (number n) n)

-- what flow f is refused for, or 0
unfoldable pub flow_number : List ℕ → Trailer → ℕ → ℕ
flow_number file t f = record_number t.sx t.sy (flow_from file (record_at t f))

-- flow by flow
abbrev pub records_answer : List ℕ → Trailer → Answer
records_answer file t = first_refused (flow_number file t) t.count

unfoldable pub plan_answer : List ℕ → Answer
plan_answer file = refused_or (answer_by (trailer_number file) 0) (records_answer file (trailer_of file))
