-- The lines that a way out of a router sends are, after the step, those in the register that it reaches, or those that left there in
-- this cycle. Rests on Outputs, Traced and the laws of links.
use mathlib.Core.Bool.{Bool, false, ◌&&◌, and-true as and_so, and-false}
use mathlib.Core.List.{map, Memᴰ as Mem}
use mathlib.Core.Logic.{inl, inr}
use mathlib.Core.Path.{◌≡◌, refl, sym, ap, ◌∙◌}
use Prim.Native.Nat.{ℕ, ◌<◌}
use native.Mathlib.Omega.{arith}
use borrow.Author.Tests.{eq-eqb, ne_eqb}
use lib.Dec.{eqb}
use Rattle.laws.specs.Count.{keep}
use Rattle.laws.proofs.Cases.{test}
use Rattle.laws.proofs.Keep.{keep_same, keep_map}
use Rattle.flow.specs.declared.Port.{Port}
use Rattle.flow.specs.Plan.{Plan, flow_at}
use Rattle.flow.specs.Ranges.{FlowOk}
use Rattle.place.specs.Place.{column_of, row_of}
use Rattle.router.specs.Links.{reach}
use Rattle.router.specs.Rule.{Way, via, leave, same_way, way_in}
use Rattle.router.proofs.Links.{reach_same}
use Rattle.router.proofs.Path.{placed_on}
use Rattle.book.specs.Line.{Stage, waiting, placed, left, Line, stands_in, left_at}
use Rattle.book.specs.Book.{Book}
use Rattle.book.specs.Cycle.{lines_in, output, enters, lowest, sent, move_stage, move, stepped}
use Rattle.book.proofs.Traced.{most_by, Sound, line_ok}
use Rattle.book.proofs.Spans.{Lawful}
use Rattle.book.proofs.Outputs.{leaves, leaves_by, outgoing}

-- a test on stages that tells, after cycle c, who was sent by this way out of the router in column x and row y
record Tells (p : Plan) (c x y : ℕ) (o : Way) (t : Stage → Bool) : Type 0 where
  waits : t waiting ≡ false
  gone : (e u x' y' : ℕ) → u < c → t (left e u x' y') ≡ false
  sends : (e x' y' : ℕ) (o' : Way) → x' < p.sx → y' < p.sy → t (sent p c e x' y' o') ≡ eqb x x' && eqb y y' && same_way o' o

module _ (p : Plan) (c x y : ℕ) where
  stands_sent : (o : Port) → x < p.sx → y < p.sy → (e x' y' : ℕ) (o' : Way) → x' < p.sx → y' < p.sy
      → stands_in (reach p x y o) (sent p c e x' y' o') ≡ eqb x x' && eqb y y' && same_way o' (via o)
  unfolding sent
  stands_sent o l m e x' y' (via o') h k = reach_same p x y x' y' o o' l m h k
  stands_sent o l m e x' y' leave h k = sym (and-false (eqb x x' && eqb y y'))

  stands_tells : (o : Port) → x < p.sx → y < p.sy → Tells p c x y (via o) (stands_in (reach p x y o))
  stands_tells o l m = record { waits = refl; gone = λ e u x' y' h. refl; sends = stands_sent o l m }

  left_sent : (e x' y' : ℕ) (o' : Way) → x' < p.sx → y' < p.sy → left_at c x y (sent p c e x' y' o') ≡ eqb x x' && eqb y y' && same_way o' leave
  unfolding sent
  left_sent e x' y' (via o') h k = sym (and-false (eqb x x' && eqb y y'))
  left_sent e x' y' leave h k = rw (eq-eqb c c refl) (sym (and_so (eqb x x' && eqb y y')))

  left_tells : Tells p c x y leave (left_at c x y)
  left_tells = record { waits = refl; gone = λ e u x' y' h. rw (ne_eqb u c (omega arith)); sends = left_sent }

module _ (p : Plan) (b : Book) (law : Lawful p b) (x y : ℕ) (o : Way) (t : Stage → Bool) (tells : Tells p b.clock x y o t) where
  moved : (l : Line) → FlowOk p.sx p.sy (flow_at p l.flow) → (D : ℕ) (s : Stage) → Sound p (flow_at p l.flow) b.clock D s
      → t (move_stage p b l s) ≡ leaves p b l x y o s
  moved l ok D waiting h =
      elim (test (enters p b l.flow && lowest b l)) [
        | inl go ↦ rw go (tells.sends b.clock (flow_at p l.flow).xs (flow_at p l.flow).ys (way_in p l.flow) ok.xs_on ok.ys_on)
        | inr stay ↦ rw stay tells.waits
      ]
  moved l ok D (placed e at) h =
      let on = placed_on p (flow_at p l.flow) (most_by p (flow_at p l.flow)) ok b.clock D e at h in
      tells.sends e (column_of at) (row_of at) (output p b (flow_at p l.flow) at) on.0 on.1
  moved l ok D (left e u x' y') h = tells.gone e u x' y' h.past

  sent_lines : keep (λ l. t l.stage) (stepped p b).lines ≡ map (move p b) (outgoing p b x y o)
  sent_lines =
      keep_map (λ l. t l.stage) (move p b) b.lines
      ∙ ap (map (move p b)) (keep_same (λ l. t (move_stage p b l l.stage)) (leaves_by p b x y o) b.lines same)
    where
      same : (l : Line) → Mem l b.lines → t (move_stage p b l l.stage) ≡ leaves_by p b x y o l
      same l m = moved l (line_ok p law.plan b law.traced l m) l.D l.stage (law.traced.sound l m)

module _ (p : Plan) (b : Book) (law : Lawful p b) (x y : ℕ) where
  -- those in the register that a port reaches
  pub arrivals : (o : Port) → x < p.sx → y < p.sy → lines_in (stepped p b) (reach p x y o) ≡ map (move p b) (outgoing p b x y (via o))
  arrivals o l m = sent_lines p b law x y (via o) (stands_in (reach p x y o)) (stands_tells p b.clock x y o l m)

  -- those that leave there
  pub departures : keep (λ l. left_at b.clock x y l.stage) (stepped p b).lines ≡ map (move p b) (outgoing p b x y leave)
  departures = sent_lines p b law x y leave (left_at b.clock x y) (left_tells p b.clock x y)
