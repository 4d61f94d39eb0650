-- Charging: a cycle in which a flow waits with a token and doesn't enter takes a packet of another flow past its source.
-- Rests on Takers; the sum over flows against I(t) is in Interference.
use mathlib.Core.Bool.{Bool, true, false, not, ◌&&◌, false≢true}
use mathlib.Core.List.{Memᴰ as Mem}
use mathlib.Core.Logic.{inl, inr, ◌≢◌}
use mathlib.Core.Path.{◌≡◌, refl, sym, ap, ◌∙◌}
use Prim.Native.Nat.{ℕ, suc, ◌+◌, ◌≤◌, ◌<◌}
use native.Mathlib.Omega.{arith}
use borrow.Author.Tests.{lt-ltb, ne_eqb, eqb-true, eqb-false, not-true}
use lib.Dec.{eqb}
use lib.ListN.{length}
use Rattle.laws.specs.Count.{count, any}
use Rattle.laws.proofs.Cases.{test, and_true, both_eqb}
use Rattle.laws.proofs.Count.{count_find, count_map, count_mono, count_more}
use Rattle.flow.specs.declared.Flow.{Flow}
use Rattle.flow.specs.Offsets.{port_of, same_client}
use Rattle.flow.specs.Plan.{Plan, flow_at}
use Rattle.flow.specs.Ranges.{FlowOk}
use Rattle.place.specs.Place.{Place, W, N, column_of, row_of}
use Rattle.router.specs.Rule.{is_open, ready, Way, way_in}
use Rattle.router.proofs.Links.{place_same}
use Rattle.router.proofs.Rule.{Closes, Closed, by_west, by_north, closed}
use Rattle.router.proofs.Entrant.{parts_ready, some_enters}
use Rattle.router.proofs.Path.{step_entry}
use Rattle.book.specs.Line.{Stage, waiting, placed, left, Line, is_waiting, stands_in, entry_of}
use Rattle.book.specs.Book.{Book, bucket_at, of_flow, waits_for}
use Rattle.book.specs.Cycle.{seen, view, enters, lowest, move_stage, move, stepped}
use Rattle.book.proofs.Moves.{goes, sent_waits, sent_entry, Turn, keeps, stays, comes, turn}
use Rattle.book.proofs.Queue.{goes_count}
use Rattle.book.proofs.Traced.{most_by, Sound, progress, sent_progress, line_ok, moved_progress}
use Rattle.book.proofs.Held.{held_line}
use Rattle.book.proofs.Spans.{Lawful}
use Rattle.book.proofs.Meetings.{meeting, passed_by, passed_yes, passed_stays}
use Rattle.book.proofs.Takers.{Takes, Passes, passed_at, placed_passes, away}

-- a line of another flow has passed f's source by clock c, not before cycle s
abbrev pub passed : Plan → ℕ → (s c : ℕ) → Line → Bool
passed p f s c l = not (eqb l.flow f) && passed_at p (flow_at p f) (flow_at p l.flow) s c l.stage

-- what such a line is
pub record HasPassed (p : Plan) (f s c : ℕ) (l : Line) : Type 0 where
  pub other : l.flow ≢ f
  pub entered : is_waiting l.stage ≡ false
  pub by_then : passed_by (meeting p (flow_at p f) (flow_at p l.flow)) s c (entry_of l.stage) (progress p (flow_at p l.flow) l.stage)
      ≡ true

pub has_passed : (p : Plan) (f s c : ℕ) (l : Line) → passed p f s c l ≡ true → HasPassed p f s c l
has_passed p f s c l t =
    let a = and_true _ _ t in
    let d = and_true _ _ a.1 in
    record {
      other = eqb-false l.flow f (not-true (eqb l.flow f) a.0);
      entered = not-true (is_waiting l.stage) d.0;
      by_then = d.1;
    }

module _ (p : Plan) (b : Book) (law : Lawful p b) (f : ℕ) where
  abbrev φ : Flow
  φ = flow_at p f

  -- a line that keeps f from entering
  abbrev Blocker : Type 0
  Blocker = (z : Line) × Mem z b.lines × Takes p b f z z.stage

  -- who takes the port of f passes it in this step
  takes_passes : (s : ℕ) → s ≤ b.clock → (z : Line) → FlowOk p.sx p.sy (flow_at p z.flow) → (D : ℕ) (st : Stage)
      → Sound p (flow_at p z.flow) b.clock D st → Takes p b f z st → Passes p φ (flow_at p z.flow) s b.clock st (move_stage p b z st)
  unfolding meeting
  takes_passes s now z okz D waiting h t =
      let c : ℕ = b.clock in
      let ψ : Flow = flow_at p z.flow in
      let o : Way = way_in p z.flow in
      record {
        before = refl;
        after =
            rw (t.0, t.1, sent_waits p c c ψ.xs ψ.ys o, sent_entry p c c ψ.xs ψ.ys o, sent_progress p ψ c c ψ.xs ψ.ys o)
            (passed_yes 0 0 0 s (c + 1) c _ (omega arith) (omega arith) (step_entry p ψ (most_by p ψ) okz c).rises);
      }
  takes_passes s now z okz D (placed e at) h t =
      placed_passes p φ (flow_at p z.flow) okz (seen p b (column_of at) (row_of at)) s b.clock D e now at t.0 t.1 t.2 h
  takes_passes s now z okz D (left e t x y) h t' = absurd t'

  takes_other : (z : Line) → FlowOk p.sx p.sy (flow_at p z.flow) → (D : ℕ) (st : Stage)
      → Sound p (flow_at p z.flow) b.clock D st → Takes p b f z st → z.flow ≢ f
  takes_other z okz D waiting h t same = t.2 same
  takes_other z okz D (placed e at) h t same =
      let ψ : Flow = flow_at p z.flow in
      let is : φ ≡ ψ = ap (flow_at p) (sym same) in
      let own = both_eqb φ.xs ψ.xs φ.ys ψ.ys (ap (λ (g : Flow). g.xs) is) (ap (λ (g : Flow). g.ys) is) in
      false≢true (sym (away p φ ψ okz b.clock D e at t.0 t.1 h) ∙ own)
  takes_other z okz D (left e t x y) h t' same = absurd t'

  -- a line that goes, and a line in a register of f's router
  goes_takes : (z : Line) (st : Stage) → is_waiting st && (enters p b z.flow && lowest b z) ≡ true → same_client φ (flow_at p z.flow) ≡ true → z.flow ≢ f
      → Takes p b f z st
  goes_takes z waiting go same other = (go, same, other)
  goes_takes z (placed e at) go same other = absurd (false≢true go)
  goes_takes z (left e t x y) go same other = absurd (false≢true go)

  stands_takes : (at : Place) → column_of at ≡ φ.xs → row_of at ≡ φ.ys → (z : Line) (st : Stage) → stands_in at st ≡ true
      → Closes (seen p b (column_of at) (row_of at)) (flow_at p z.flow) at (port_of p.sx φ) → Takes p b f z st
  stands_takes at column row z waiting h t = absurd (false≢true h)
  stands_takes at column row z (placed e here) h t = rw (place_same at here h) (column, row, t)
  stands_takes at column row z (left e u x y) h t = absurd (false≢true h)

  -- a closed port is taken
  closed_takes : is_open (seen p b φ.xs φ.ys) φ.xs (port_of p.sx φ) ≡ false → Blocker
  closed_takes shut = taken (closed (seen p b φ.xs φ.ys) φ.xs φ.ys (port_of p.sx φ) shut)
    where
      taken : Closed (seen p b φ.xs φ.ys) φ.xs φ.ys (port_of p.sx φ) → Blocker
      taken (by_west g e t) =
          let z = held_line p b (W φ.xs φ.ys) g e in
          (z.0, z.1, stands_takes (W φ.xs φ.ys) refl refl z.0 z.0.stage z.2 (rw z.3 t))
      taken (by_north g e t) =
          let z = held_line p b (N φ.xs φ.ys) g e in
          (z.0, z.1, stands_takes (N φ.xs φ.ys) refl refl z.0 z.0.stage z.2 (rw z.3 t))

  -- some line takes the port, or enters before f
  blocked : f < length p.flows → any (waits_for f) b.lines ≡ true → 1 ≤ (bucket_at b f).tokens → enters p b f ≡ false → Blocker
  blocked in_plan w token out =
      elim (test (is_open (seen p b φ.xs φ.ys) φ.xs (port_of p.sx φ))) [
        | inr shut ↦ closed_takes shut
        | inl opened ↦ elim (some_enters p (view p b) f in_plan (is_ready opened)) [
          | inl own ↦ absurd (false≢true (sym out ∙ own))
          | inr g ↦ lower g.0 g.1 g.2 g.3
        ]
      ]
    where
      is_ready : is_open (seen p b φ.xs φ.ys) φ.xs (port_of p.sx φ) ≡ true → ready p (view p b) f ≡ true
      is_ready opened = parts_ready p (view p b) f (record { waits = w; token = lt-ltb 0 (bucket_at b f).tokens token; opened = opened })

      lower : (g : ℕ) → g < f → same_client φ (flow_at p g) ≡ true → enters p b g ≡ true → Blocker
      lower g below same en =
          let z = count_find (λ l. of_flow g l && goes p b l) b.lines (rw (goes_count b law.queued p g, en) (omega arith)) in
          let k = and_true _ _ z.2 in
          let own = eqb-true z.0.flow g k.0 in
          (z.0, z.1, goes_takes z.0 z.0.stage k.1 (ap (λ (h : ℕ). same_client φ (flow_at p h)) own ∙ same) (omega arith))

  -- who has passed stays so
  passed_step : (s : ℕ) (l : Line) → Mem l b.lines → passed p f s b.clock l ≡ true → passed p f s (b.clock + 1) (move p b l) ≡ true
  passed_step s l m t = step (has_passed p f s b.clock l t) (turn p b l)
    where
      step : HasPassed p f s b.clock l → Turn p b l → passed p f s (b.clock + 1) (move p b l) ≡ true
      step h (keeps w w' e g) =
          let more = moved_progress p law.plan b law.traced l (line_ok p law.plan b law.traced l m) l.D l.stage (law.traced.sound l m) in
          rw (ne_eqb l.flow f h.other, w', e)
          (passed_stays (meeting p φ (flow_at p l.flow)) s b.clock (b.clock + 1) (entry_of l.stage) _ _ (omega arith) more h.by_then)
      step h (stays w w' g) = absurd (false≢true (sym h.entered ∙ w))
      step h (comes w w' e g) = absurd (false≢true (sym h.entered ∙ w))

  pub passed_more : (s : ℕ) → count (passed p f s b.clock) b.lines ≤ count (passed p f s (b.clock + 1)) (stepped p b).lines
  passed_more s =
      rw (count_map (passed p f s (b.clock + 1)) (move p b) b.lines)
      (count_mono (passed p f s b.clock) (λ l. passed p f s (b.clock + 1) (move p b l)) b.lines (passed_step s))

  -- the charging lemma: f waits with a token and doesn't enter
  pub charge : (s : ℕ) → f < length p.flows → s ≤ b.clock → any (waits_for f) b.lines ≡ true → 1 ≤ (bucket_at b f).tokens → enters p b f ≡ false
      → suc (count (passed p f s b.clock) b.lines) ≤ count (passed p f s (b.clock + 1)) (stepped p b).lines
  charge s in_plan now w token out =
      let z = blocked in_plan w token out in
      let okz = line_ok p law.plan b law.traced z.0 z.1 in
      let h = law.traced.sound z.0 z.1 in
      let other = ne_eqb z.0.flow f (takes_other z.0 okz z.0.D z.0.stage h z.2) in
      let pass = takes_passes s now z.0 okz z.0.D z.0.stage h z.2 in
      rw (count_map (passed p f s (b.clock + 1)) (move p b) b.lines)
      (count_more (passed p f s b.clock) (λ l. passed p f s (b.clock + 1) (move p b l)) b.lines (passed_step s) z.0 z.1
      (rw other pass.before) (rw other pass.after))
