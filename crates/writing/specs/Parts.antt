-- The parts of the file that is written from a state. Only promises of inner functions name these; proofs/ ties them to plan_bytes.
use Rattle.std.specs.Prelude.{List, [], ◌∷◌, ◌++◌, ℕ, ◌+◌, ◌*◌, ◌%◌, length}
use Rattle.laws.specs.Count.{join_below}
use Rattle.file.specs.Layout.{record_size, trailer_size, tag}
use Rattle.file.specs.Bytes.{two_bytes, four_bytes}
use Rattle.plan.specs.Written.{record_bytes}
use Rattle.state.specs.Layout.{flow_place}
use Rattle.state.specs.Read.{count_in, flow_in}

-- a number's low byte
abbrev pub low_byte : ℕ → ℕ
low_byte n = n % 256

-- the records of the first `count` flows of the state with words w
abbrev pub records_in : (w : List ℕ) → (count : ℕ) → List ℕ
records_in w count = join_below count (λ f. record_bytes (flow_in w (flow_place f)))

-- the trailer, by its numbers
abbrev pub trailer_from : (start count sx sy : ℕ) → List ℕ
trailer_from start count sx sy = four_bytes start ++ (two_bytes count ++ (sx ∷ sy ∷ [])) ++ tag

-- the file's length
abbrev pub file_size : (notes w : List ℕ) → ℕ
file_size notes w = length notes + record_size * count_in w + trailer_size
