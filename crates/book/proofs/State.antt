-- What the book keeps is what 01 asks of words that form a state and of a flight: a line's place, its flight and its D, and each flow's
-- bucket. Rests on Kept and the router's Path.
use mathlib.Core.Bool.{true}
use mathlib.Core.List.{Memᴰ as Mem}
use mathlib.Core.Logic.{inl, inr}
use mathlib.Core.Path.{◌≡◌}
use Prim.Native.Nat.{ℕ, ◌+◌, ◌-◌, ◌≤◌, ◌<◌}
use native.Mathlib.Omega.{arith}
use lib.ListN.{length}
use Rattle.torus.proofs.Axis.{lap_most}
use Rattle.flow.specs.declared.Flow.{Flow}
use Rattle.flow.specs.Plan.{Plan, flow_at}
use Rattle.flow.specs.Offsets.{ΔY}
use Rattle.flow.specs.Ranges.{FlowOk}
use Rattle.bucket.specs.Regulator.{bucket_fits}
use Rattle.bucket.proofs.Regulator.{fits}
use Rattle.turning.specs.Turning.{is_turning}
use Rattle.turning.proofs.Turning.{south_most}
use Rattle.flight.specs.Flight.{travel, most_deflections}
use Rattle.place.specs.Place.{Place, W, N}
use Rattle.place.specs.InPlace.{rows_done, is_in_place}
use Rattle.router.proofs.Path.{OnPath, placed_on, entered_before}
use Rattle.router.proofs.InPlace.{path_in_place}
use Rattle.book.specs.Line.{Stage, waiting, placed, left, Line, stands_in, entry_of}
use Rattle.book.specs.Book.{Book, bucket_at, entered_of}
use Rattle.book.specs.Promises.{Flies}
use Rattle.book.proofs.Queue.{entered_within, serial_range}
use Rattle.book.proofs.Traced.{most_by, most_rising, Sound, stands_entered, stands_path, line_ok}
use Rattle.book.proofs.Kept.{Kept}

module _ (p : Plan) (f : Flow) (ok : FlowOk p.sx p.sy f) (c D : ℕ) where
  pub sound_flies : (s : Stage) → Sound p f c D s → Flies p f D c s
  sound_flies waiting h = tt
  sound_flies (placed e at) h = let on = placed_on p f (most_by p f) ok c D e at h in (on.0, on.1, in_time at h)
    where
      in_time : (at : Place) → OnPath p f (most_by p f) c D e at → c ≤ e + travel p.sx p.sy f D
      in_time (N x y) h = omega (arith, h.time, h.most)
      in_time (W x y) (inl h) = omega (arith, h.time, h.most)
      in_time (W x y) (inr h) = omega (arith, h.time, h.most, lap_most p.sx f.xd x ok.xd_on h.column)
  sound_flies (left e t x y) h = (h.out.column, h.out.row, h.out.time)

  pub sound_deflections : (s : Stage) → Sound p f c D s → D ≤ most_deflections p f
  sound_deflections waiting h = omega arith
  sound_deflections (placed e (N x y)) h = omega (arith, h.few, most_rising p f (rows_done p.sy f y - 1) (ΔY p.sy f) (omega (arith, h.most)))
  sound_deflections (placed e (W x y)) (inl h) = omega (arith, h.none)
  sound_deflections (placed e (W x y)) (inr h) = omega (arith, h.few, most_rising p f (rows_done p.sy f y) (ΔY p.sy f) h.most)
  sound_deflections (left e t x y) h = h.out.few

-- the packet of a line in this register, as words that form a state have it
pub record InRegister (p : Plan) (b : Book) (l : Line) (at : Place) : Type 0 where
  pub least : 1 ≤ l.serial
  pub most : l.serial ≤ entered_of b l.flow
  pub before : entry_of l.stage < b.clock
  pub in_place : is_in_place p.sx p.sy (flow_at p l.flow) at l.D (b.clock - entry_of l.stage) ≡ true

module _ (p : Plan) (b : Book) (k : Kept p b) where
  pub bucket_fits_lem : (f : ℕ) → f < length p.flows → bucket_fits (flow_at p f).burst (flow_at p f).period (bucket_at b f) ≡ true
  bucket_fits_lem f l = fits _ _ (bucket_at b f) b.clock _ (k.lawful.regulated f l)

  pub in_register : (l : Line) → Mem l b.lines → (at : Place) → stands_in at l.stage ≡ true → InRegister p b l at
  in_register l m at h =
      let law = k.lawful in
      let φ = flow_at p l.flow in
      let fits = line_ok p law.plan b law.traced l m in
      let path = stands_path p φ b.clock l.D at l.stage (law.traced.sound l m) h in
      let few = south_most p.sy (is_turning p φ.xd) φ.ys in
      record {
        least = (serial_range b law.queued l m).0;
        most = entered_within b law.queued l m (stands_entered at l.stage h);
        before = entered_before p φ (most_by p φ) fits b.clock l.D (entry_of l.stage) at path;
        in_place = path_in_place p φ fits b.clock l.D (most_by p φ) few (entry_of l.stage) at path;
      }
