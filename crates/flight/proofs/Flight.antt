-- Flights keep within their bounds, and flights are short. Rests on specs/Flight and the laws of offsets and turning rows.
use mathlib.Core.List.{List}
use mathlib.Core.Path.{◌≡◌, ap}
use Prim.Native.Nat.{ℕ, ◌+◌, ◌*◌, ◌≤◌, ◌<◌}
use native.Mathlib.Nat.{mul-le-mul, mul-le-mul_right}
use native.Mathlib.Omega.{arith}
use lib.ListN.{get_or}
use Rattle.laws.specs.Bits.{is_set}
use Rattle.torus.proofs.Axis.{offset_below}
use Rattle.flow.specs.declared.Flow.{Flow}
use Rattle.flow.specs.Offsets.{ΔY}
use Rattle.flow.specs.Plan.{Plan, most_size}
use Rattle.flow.specs.Ranges.{FlowOk}
use Rattle.turning.specs.Turning.{is_turning, rows_south}
use Rattle.turning.specs.Columns.{TurningIn}
use Rattle.turning.proofs.Turning.{south_most, south_same}
use Rattle.flight.specs.Flight.{travel, flight, flight_of, most_deflections, flight_bound}

-- the flight of a packet that travels with D deflections, from every entry
pub flight_of_lem : (sx sy : ℕ) (f : Flow) (D entry : ℕ) → flight entry (entry + travel sx sy f D) ≡ flight_of sx sy f D
flight_of_lem sx sy f D entry = omega arith

-- with no more than the most deflections it is within the bound
pub flight_bounded : (p : Plan) (f : Flow) (D : ℕ) → D ≤ most_deflections p f → flight_of p.sx p.sy f D ≤ flight_bound p f
flight_bounded p f D h = omega (arith, mul-le-mul_right {m = D} {n = most_deflections p f} p.sx h)

-- at most one deflection for each of the ΔY rows
pub deflections_few : (p : Plan) (f : Flow) → most_deflections p f ≤ ΔY p.sy f
deflections_few p f = south_most p.sy (is_turning p f.xd) f.ys (ΔY p.sy f)

-- no flight is longer: 15 columns and 15 rows, 16 columns round for each row, and 2
abbrev pub most_flight : ℕ
most_flight = 272

pub flight_most : (sx sy : ℕ) (f : Flow) (D : ℕ) → FlowOk sx sy f → sx ≤ most_size → sy ≤ most_size → D ≤ ΔY sy f → flight_of sx sy f D ≤ most_flight
flight_most sx sy f D ok h l few =
    let dx = offset_below sx f.xs f.xd ok.xs_on ok.xd_on in
    let dy = offset_below sy f.ys f.yd ok.ys_on ok.yd_on in
    let laps : D * sx ≤ 15 * most_size = mul-le-mul {n₂ = 15} (omega arith) h in
    omega arith

-- the bound by the columns' words is the plan's
pub bound_told : (p : Plan) (columns : List ℕ) → TurningIn p columns → (f : Flow) → FlowOk p.sx p.sy f
    → flight_of p.sx p.sy f (rows_south p.sy (is_set (get_or columns f.xd 0)) f.ys (ΔY p.sy f)) ≡ flight_bound p f
bound_told p columns tell f ok =
    let same : (y : ℕ) → y < p.sy → is_set (get_or columns f.xd 0) y ≡ is_turning p f.xd y = λ y on. tell.told f.xd y ok.xd_on on in
    ap (flight_of p.sx p.sy f) (south_same p.sy _ _ (omega (arith, ok.ys_on)) same f.ys (ΔY p.sy f))
