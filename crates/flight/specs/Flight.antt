-- The flight of a packet and its bound (01, One cycle; Windows; 02, U8).
use Rattle.std.specs.Prelude.{ℕ, ◌+◌, ◌-◌, ◌*◌}
use Rattle.flow.specs.declared.Flow.{Flow}
use Rattle.flow.specs.Offsets.{ΔX, ΔY}
use Rattle.flow.specs.Plan.{Plan}
use Rattle.turning.specs.Turning.{turning_rows}

-- the cycles from entry to exit with D deflections: ΔX + ΔY + D×Sx
abbrev pub travel : ℕ → ℕ → Flow → ℕ → ℕ
travel sx sy f D = ΔX sx f + ΔY sy f + D * sx

-- flight is exit − entry + 2
abbrev pub flight : (entry exit : ℕ) → ℕ
flight entry exit = exit - entry + 2

-- the flight of a packet with D deflections, whatever its entry (proofs/Flight, flight_of_lem)
abbrev pub flight_of : ℕ → ℕ → Flow → ℕ → ℕ
flight_of sx sy f D = travel sx sy f D + 2

-- in a run from reset no packet of the flow has more deflections: "the number of turning rows among the ΔY rows south of the source, for
-- destination column xd"
abbrev pub most_deflections : Plan → Flow → ℕ
most_deflections p f = turning_rows p f.xd f.ys (ΔY p.sy f)

-- "Flight bounds use that count": ΔX + ΔY + D×Sx + 2 with the most deflections for D
abbrev pub flight_bound : Plan → Flow → ℕ
flight_bound p f = flight_of p.sx p.sy f (most_deflections p f)
