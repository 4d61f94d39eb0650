-- Who keeps a flow from entering: a packet that takes its port, or a line of its client that enters. It passes f in that step and
-- had not passed before. Rests on Traced, Meetings and the router's Path.
use mathlib.Core.Bool.{Bool, true, false, not, ◌&&◌, false≢true}
use mathlib.Core.Logic.{inl, inr, ◌≢◌}
use mathlib.Core.Path.{◌≡◌, refl, sym, ap, ◌∙◌}
use Prim.Native.Nat.{ℕ, suc, ◌+◌, ◌-◌, ◌*◌, ◌≤◌, ◌<◌}
use native.Mathlib.Nat.{mul-le-mul_right}
use native.Mathlib.Omega.{arith}
use borrow.Author.Tests.{le-leb, eq-eqb, ne_eqb}
use lib.Dec.{ltb}
use Rattle.laws.proofs.Cases.{test, eqb_both}
use Rattle.torus.specs.Axis.{offset, lap}
use Rattle.torus.proofs.Axis.{offset_same}
use Rattle.flow.specs.declared.Flow.{Flow}
use Rattle.flow.specs.declared.Port.TheVariants.{South}
use Rattle.flow.specs.Offsets.{ΔX, ΔY, port_of, same_client}
use Rattle.flow.specs.Plan.{Plan, flow_at}
use Rattle.flow.specs.Ranges.{FlowOk}
use Rattle.turning.specs.Turning.{is_turning}
use Rattle.turning.proofs.Turning.{south_step, step_south}
use Rattle.conflict.specs.Conflict.{rows_to, columns_to}
use Rattle.place.specs.Place.{Place, W, N, column_of, row_of}
use Rattle.place.specs.InPlace.{rows_done}
use Rattle.router.specs.Rule.{Seen, turns_south, Way, way_by, way_from}
use Rattle.router.proofs.Rule.{Closes}
use Rattle.router.proofs.Limit.{Rising}
use Rattle.router.proofs.Path.{OnPath, MayBend, progress_by, progress_row, placed_south, along_first, along_later, step_placed}
use Rattle.router.proofs.Path as Path
use Rattle.book.specs.Line.{Stage, waiting, placed, left, Line, is_waiting, entry_of}
use Rattle.book.specs.Book.{Book}
use Rattle.book.specs.Cycle.{seen, enters, lowest, sent}
use Rattle.book.proofs.Moves.{sent_waits, sent_entry}
use Rattle.book.proofs.Traced.{most_by, most_rising, progress, sent_progress}
use Rattle.book.proofs.Meetings.{laps_of, meets, meeting, passed_by, passed_yes, passed_no}

-- the line z, of another flow, keeps flow f from entering
abbrev pub Takes : Plan → Book → ℕ → Line → Stage → Type 0
Takes p b f z waiting = (enters p b z.flow && lowest b z ≡ true) × (same_client (flow_at p f) (flow_at p z.flow) ≡ true) × (z.flow ≢ f)
Takes p b f z (placed e at) =
    (column_of at ≡ (flow_at p f).xs) × (row_of at ≡ (flow_at p f).ys)
    × Closes (seen p b (column_of at) (row_of at)) (flow_at p z.flow) at (port_of p.sx (flow_at p f))
Takes p b f z (left e t x y) = ⊥

-- a stage with an entry has passed f
abbrev pub passed_at : Plan → (f g : Flow) → (s c : ℕ) → Stage → Bool
passed_at p f g s c st = not (is_waiting st) && passed_by (meeting p f g) s c (entry_of st) (progress p g st)

-- the step of a stage takes it past f
pub record Passes (p : Plan) (f g : Flow) (s c : ℕ) (old new : Stage) : Type 0 where
  pub before : passed_at p f g s c old ≡ false
  pub after : passed_at p f g s (c + 1) new ≡ true

module _ (p : Plan) (f g : Flow) (ok : FlowOk p.sx p.sy g) where
  abbrev sx : ℕ
  sx = p.sx

  rising : Rising (most_by p g)
  rising = most_rising p g

  -- f's port is E
  abbrev eastward : Bool
  eastward = ltb 0 (ΔX p.sx f)

  -- the rows that turn for g
  abbrev limit : ℕ → ℕ
  limit = most_by p g

  -- g's rows and columns to f's source
  abbrev r : ℕ
  r = rows_to p.sy f g

  abbrev j : ℕ
  j = columns_to p.sx f g

  abbrev k : ℕ
  k = lap p.sx g.xd f.xs

  -- a packet is never in a register of its own source's router
  pub away : (c D e : ℕ) (at : Place) → column_of at ≡ f.xs → row_of at ≡ f.ys → OnPath p g limit c D e at → same_client f g ≡ false
  away c D e at x y h =
      elim (test (same_client f g)) [
        | inr other ↦ other
        | inl same ↦ let home = eqb_both f.xs g.xs f.ys g.ys same in absurd (not_home at h (x ∙ home.0) (y ∙ home.1))
      ]
    where
      not_home : (at : Place) → OnPath p g limit c D e at → column_of at ≡ g.xs → row_of at ≡ g.ys → ⊥
      not_home (N x y) h a b = omega (arith, h.least, ap (offset p.sy g.ys) b, offset_same p.sy g.ys ok.ys_on)
      not_home (W x y) (inl h) a b = omega (arith, h.least, ap (offset sx g.xs) a, offset_same sx g.xs ok.xs_on)
      not_home (W x y) (inr h) a b = omega (arith, h.least, ap (offset p.sy g.ys) b, offset_same p.sy g.ys ok.ys_on)

  -- the rows of the meeting's table
  meets_first : same_client f g ≡ false → eastward ≡ true → r ≡ 0 → 1 ≤ j → j ≤ ΔX sx g → meeting p f g ≡ meets j 0 j
  unfolding meeting
  meets_first other east row least most = rw (other, east, eq-eqb r 0 row, le-leb 1 j least, le-leb j (ΔX sx g) most)

  meets_later : same_client f g ≡ false → eastward ≡ true → 1 ≤ r → r ≤ ΔY p.sy g → is_turning p g.xd f.ys ≡ true
      → meeting p f g ≡ meets (ΔX sx g + r + k) (laps_of p g (r - 1)) (r * suc sx + k)
  unfolding meeting
  meets_later other east least most turns = rw (other, east, ne_eqb r 0 (omega arith), le-leb r (ΔY p.sy g) most, turns)

  meets_south : same_client f g ≡ false → eastward ≡ false → f.xs ≡ g.xd → r ≤ ΔY p.sy g
      → meeting p f g ≡ meets (ΔX sx g + r) (laps_of p g r) (r * suc sx + sx)
  unfolding meeting
  meets_south other south column most = rw (other, south, eq-eqb g.xd f.xs (sym column), le-leb r (ΔY p.sy g) most)

  -- in cycle c the packet is at its meeting with f, and output o takes it past the point
  record AtMeeting (K J point c e : ℕ) (at : Place) (o : Way) : Type 0 where
    is : meeting p f g ≡ meets K J point
    late : c ≤ e + K + J
    early : e + K ≤ c
    short : Path.progress p g at ≤ point
    past : point < progress_by p g (column_of at) (row_of at) o

  module _ (v : Seen) (s c D e : ℕ) (now : s ≤ c) where
    passes_at : (K J point : ℕ) (at : Place) (o : Way) → AtMeeting K J point c e at o → Passes p f g s c (placed e at) (sent p c e (column_of at) (row_of at) o)
    passes_at K J point at o h =
        let x = column_of at in
        let y = row_of at in
        record {
          before = rw h.is (passed_no K J point s c e (Path.progress p g at) h.short);
          after =
              rw (h.is, sent_waits p c e x y o, sent_entry p c e x y o, sent_progress p g c e x y o)
              (passed_yes K J point s (c + 1) e _ (omega (arith, h.late)) (omega (arith, h.early)) h.past);
        }

    -- f's port is E and the packet is in W
    abbrev here : Place
    here = W f.xs f.ys

    -- which is never deflected
    straight : MayBend p g limit v here
    straight t = absurd (false≢true t)

    west : eastward ≡ true → OnPath p g limit c D e here → Passes p f g s c (placed e here) (sent p c e f.xs f.ys (way_from v here g))
    west east (inl h) =
        let row : r ≡ 0 = ap (offset p.sy g.ys) h.row ∙ offset_same p.sy g.ys ok.ys_on in
        let rows : r * suc sx ≡ 0 * suc sx = ap (λ (n : ℕ). n * suc sx) row in
        let come = along_first p g f.xs f.ys row in
        passes_at j 0 j here (way_from v here g)
        (record {
          is = meets_first (away c D e here refl refl (inl h)) east row h.least h.most;
          late = omega (arith, h.time);
          early = omega (arith, h.time);
          short = omega arith;
          past = omega (arith, (step_placed p g limit ok rising v c D e here (inl h) straight).rises);
        })
    west east (inr h) =
        let come = along_later p g f.xs f.ys h.least in
        let most = mul-le-mul_right sx h.few in
        let least = mul-le-mul_right sx h.some in
        let turns = step_south p.sy (is_turning p g.xd) g.ys ok.ys_on f.ys h.row h.least h.turning in
        let once : limit r ≡ limit (r - 1) + 1 = south_step p.sy (is_turning p g.xd) g.ys ok.ys_on f.ys h.row h.least turns in
        let split : limit r * sx ≡ (limit (r - 1) + 1) * sx = ap (λ (n : ℕ). n * sx) once in
        passes_at (ΔX sx g + r + k) (laps_of p g (r - 1)) (r * suc sx + k) here (way_from v here g)
        (record {
          is = meets_later (away c D e here refl refl (inr h)) east h.least h.most turns;
          late = omega (arith, h.time);
          early = omega (arith, h.time);
          short = omega arith;
          past = omega (arith, (step_placed p g limit ok rising v c D e here (inr h) straight).rises);
        })

    -- f's port is S and the packet goes there
    down : (at : Place) → column_of at ≡ f.xs → row_of at ≡ f.ys → eastward ≡ false → column_of at ≡ g.xd → OnPath p g limit c D e at
        → Passes p f g s c (placed e at) (sent p c e (column_of at) (row_of at) (way_by (column_of at) (row_of at) g South))
    down at x y south turn h =
        let go = placed_south p g limit ok rising c D e at h turn in
        let most = mul-le-mul_right sx go.few in
        let row : rows_done p.sy g (row_of at) ≡ r = ap (offset p.sy g.ys) y in
        let rows = ap (λ (n : ℕ). n * suc sx) row in
        let cols = ap (λ (n : ℕ). limit n * sx) row in
        passes_at (ΔX sx g + r) (laps_of p g r) (r * suc sx + sx) at (way_by (column_of at) (row_of at) g South)
        (record {
          is = meets_south (away c D e at x y h) south (sym x ∙ turn) (omega (arith, go.most));
          late = omega (arith, go.time);
          early = omega (arith, go.time);
          short = omega (arith, progress_row p g limit ok c D e at h);
          past = omega (arith, (Path.south p g limit ok c D e (column_of at) (row_of at) go).rises);
        })

    -- either port
    pub placed_passes : (at : Place) → column_of at ≡ f.xs → row_of at ≡ f.ys → Closes v g at (port_of sx f) → OnPath p g limit c D e at
        → Passes p f g s c (placed e at) (sent p c e (column_of at) (row_of at) (way_from v at g))
    placed_passes (W x y) xe ye t h =
        elim (test eastward) [
          | inl east ↦ rw (xe, ye) (west east (rw (xe, ye) at h))
          | inr south ↦ let turn : x ≡ g.xd = rw south at t in rw (eq-eqb x g.xd turn) (down (W x y) xe ye south turn h)
        ]
    placed_passes (N x y) xe ye t h =
        elim (test eastward) [
          | inl east ↦ absurd (rw east at t)
          | inr south ↦ let clear : turns_south x v.west ≡ false = rw south at t in rw clear (down (N x y) xe ye south h.column h)
        ]
