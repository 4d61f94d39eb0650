-- The bytes of a plan with given notes: notes, records, trailer (01, Torus and plan file).
use Rattle.std.specs.Prelude.{List, [], ◌∷◌, ◌++◌, ℕ, ◌/◌, length}
use Rattle.flow.specs.declared.Flow.{Flow}
use Rattle.flow.specs.Plan.{Plan}
use Rattle.file.specs.Bytes.{third_byte, two_bytes, four_bytes}
use Rattle.file.specs.Layout.{tag}

-- xs, ys, xd, yd, the low two bytes of P, σ and the top byte of P
unfoldable pub record_bytes : Flow → List ℕ
record_bytes f = (f.xs ∷ f.ys ∷ f.xd ∷ f.yd ∷ []) ++ two_bytes f.period ++ (f.burst ∷ f.period / third_byte ∷ [])

unfoldable pub records_bytes : List Flow → List ℕ
records_bytes [] = []
records_bytes (f ∷ fs) = record_bytes f ++ records_bytes fs

-- start, count F, Sx, Sy and the tag
unfoldable pub trailer_bytes : ℕ → Plan → List ℕ
trailer_bytes start p = four_bytes start ++ two_bytes (length p.flows) ++ (p.sx ∷ p.sy ∷ []) ++ tag

unfoldable pub plan_bytes : List ℕ → Plan → List ℕ
plan_bytes notes p = notes ++ records_bytes p.flows ++ trailer_bytes (length notes) p
