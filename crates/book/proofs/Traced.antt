-- Every line of the book is of a flow of the plan and is where it can be; a step raises its progress. Rests on the router's Path.
use mathlib.Core.Bool.{true, false, ◌&&◌, false≢true}
use mathlib.Core.List.{Memᴰ as Mem}
use mathlib.Core.Logic.{inl, inr}
use mathlib.Core.Option.{Option}
use mathlib.Core.Path.{◌≡◌, refl, sym, ap, subst}
use Prim.Native.Nat.{ℕ, ◌+◌, ◌≤◌, ◌<◌}
use native.Mathlib.Nat.{add-zero, le_refl}
use native.Mathlib.Omega.{arith}
use borrow.Author.Tests.{eqb-true}
use lib.ListN.{length}
use Rattle.laws.specs.Count.{one}
use Rattle.laws.proofs.Cases.{test}
use Rattle.laws.proofs.Count.{mem_map, mem_snoc}
use Rattle.torus.specs.Axis.{offset}
use Rattle.torus.proofs.Axis.{offset_same}
use Rattle.flow.specs.declared.Flow.{Flow}
use Rattle.flow.specs.Plan.{Plan, flow_at}
use Rattle.turning.specs.Turning.{is_turning, turning_rows}
use Rattle.flow.specs.Ranges.{FlowOk, PlanOk}
use Rattle.turning.proofs.Turning.{turns_own, south_rises, south_step, step_south}
use Rattle.place.specs.Place.{Place, W, N, column_of, row_of}
use Rattle.router.specs.Rule.{turns_south, deflects, Way, via, leave, way_from, way_in}
use Rattle.router.proofs.Links.{place_same}
use Rattle.router.proofs.Limit.{Rising}
use Rattle.router.proofs.Path.{OnPath, AtExit, Arrives, Leads, MayBend, progress_by, whole, step_placed, step_entry}
use Rattle.router.proofs.Path as Path
use Rattle.book.specs.Line.{Stage, waiting, placed, left, Line, is_waiting, stands_in, entry_of}
use Rattle.book.specs.Book.{Book, offered}
use Rattle.book.specs.Cycle.{seen, output, enters, is_deflected, sent, lowest, move_stage, stepped}
use Rattle.book.proofs.Held.{Holder, no_line, line_in, held}

-- the rows that turn for a flow's packet among the first r of its way: it has at most as many deflections, from reset on
abbrev pub most_by : Plan → Flow → ℕ → ℕ
most_by p f r = turning_rows p f.xd f.ys r

pub most_rising : (p : Plan) (f : Flow) → Rising (most_by p f)
most_rising p f = south_rises p.sy (is_turning p f.xd) f.ys

module _ (p : Plan) (f : Flow) where
  -- left, in an earlier cycle
  pub record Gone (c D e t x y : ℕ) : Type 0 where
    pub out : AtExit p f (most_by p f) t D e x y
    pub past : t < c

  -- a line of flow f with D deflections is where it can be at clock c
  abbrev pub Sound : (c D : ℕ) → Stage → Type 0
  Sound c D waiting = D ≡ 0
  Sound c D (placed e at) = OnPath p f (most_by p f) c D e at
  Sound c D (left e t x y) = Gone c D e t x y

  -- how far a line has come
  abbrev pub progress : Stage → ℕ
  progress waiting = 0
  progress (placed e at) = Path.progress p f at
  progress (left e t x y) = whole p f

  sent_sound : (c D e x y : ℕ) (o : Way) → Arrives p f (most_by p f) c D e x y o → Sound (c + 1) D (sent p c e x y o)
  unfolding sent
  sent_sound c D e x y (via o) h = h
  sent_sound c D e x y leave h = record { out = h; past = omega arith }

  pub sent_progress : (c e x y : ℕ) (o : Way) → progress (sent p c e x y o) ≡ progress_by p f x y o
  unfolding sent
  sent_progress c e x y (via o) = refl
  sent_progress c e x y leave = refl

-- a line in a register has an entry and is on its path there
pub stands_entered : (at : Place) (s : Stage) → stands_in at s ≡ true → is_waiting s ≡ false
stands_entered at waiting t = sym t
stands_entered at (placed e here) t = refl
stands_entered at (left e u x y) t = refl

pub stands_path : (p : Plan) (f : Flow) (c D : ℕ) (at : Place) (s : Stage) → Sound p f c D s → stands_in at s ≡ true → OnPath p f (most_by p f) c D (entry_of s) at
stands_path p f c D at waiting h t = absurd (false≢true t)
stands_path p f c D at (placed e here) h t = subst (OnPath p f (most_by p f) c D e) (place_same at here t) h
stands_path p f c D at (left e u x y) h t = absurd (false≢true t)

pub record Traced (p : Plan) (b : Book) : Type 0 where
  pub known : (l : Line) → Mem l b.lines → l.flow < length p.flows
  pub sound : (l : Line) → Mem l b.lines → Sound p (flow_at p l.flow) b.clock l.D l.stage

module _ (p : Plan) (ok : PlanOk p) (b : Book) (tr : Traced p b) where
  pub line_ok : (l : Line) → Mem l b.lines → FlowOk p.sx p.sy (flow_at p l.flow)
  line_ok l m = ok.flow_ok l.flow (tr.known l m)

  -- who stands in W and goes S makes its row turning: its own source row, or one in which it was deflected
  west_turns : (l : Line) → Mem l b.lines → (x y : ℕ)
      → OnPath p (flow_at p l.flow) (most_by p (flow_at p l.flow)) b.clock l.D (entry_of l.stage) (W x y)
      → x ≡ (flow_at p l.flow).xd → is_turning p x y ≡ true
  west_turns l m x y (inl h) column =
      let φ = flow_at p l.flow in
      turns_own p l.flow (tr.known l m) x y (sym h.row)
      (λ own. omega (arith, h.least, ap (offset p.sx φ.xs) (sym own), offset_same p.sx φ.xs (line_ok l m).xs_on)) (sym column)
  west_turns l m x y (inr h) column =
      let φ = flow_at p l.flow in
      rw column (step_south p.sy (is_turning p φ.xd) φ.ys (line_ok l m).ys_on y h.row h.least h.turning)

  holder_turns : (x y : ℕ) {o : Option Flow} → Holder p b (W x y) o → turns_south x o ≡ true → is_turning p x y ≡ true
  unfolding turns_south
  holder_turns x y (no_line n) t = absurd (false≢true t)
  holder_turns x y (line_in l m s) t =
      west_turns l m x y (stands_path p (flow_at p l.flow) b.clock l.D (W x y) l.stage (tr.sound l m) s) (eqb-true x _ t)

  -- a router deflects in a turning row only
  may_bend : (f : Flow) → FlowOk p.sx p.sy f → (D e : ℕ) (at : Place) → OnPath p f (most_by p f) b.clock D e at
      → MayBend p f (most_by p f) (seen p b (column_of at) (row_of at)) at
  may_bend f on D e (N x y) h t =
      let turns = rw h.column at (holder_turns x y (held p b (W x y)) t) in
      omega (arith, south_step p.sy (is_turning p f.xd) f.ys on.ys_on y h.row h.least turns)
  may_bend f on D e (W x y) h t = absurd (false≢true t)

module _ (p : Plan) (plan : PlanOk p) (b : Book) (tr : Traced p b) (l : Line) (ok : FlowOk p.sx p.sy (flow_at p l.flow)) where
  abbrev φ : Flow
  φ = flow_at p l.flow

  abbrev c : ℕ
  c = b.clock

  -- a packet in place goes on by the rule
  placed_leads : (D e : ℕ) (at : Place) → OnPath p φ (most_by p φ) c D e at → let v = seen p b (column_of at) (row_of at) in
      Leads p φ (most_by p φ) c (D + one (deflects v at)) e (column_of at) (row_of at) (Path.progress p φ at) (way_from v at φ)
  placed_leads D e at h =
      step_placed p φ (most_by p φ) ok (most_rising p φ) (seen p b (column_of at) (row_of at)) c D e at h (may_bend p plan b tr φ ok D e at h)

  -- a line's step, from any stage
  moved_sound : (D : ℕ) (s : Stage) → Sound p φ c D s → Sound p φ (c + 1) (D + one (is_deflected p b s)) (move_stage p b l s)
  moved_sound D waiting h =
      elim (test (enters p b l.flow && lowest b l)) [
        | inl go ↦ rw (go, h) (sent_sound p φ c 0 c φ.xs φ.ys (way_in p l.flow) (step_entry p φ (most_by p φ) ok c).sound)
        | inr stay ↦ rw stay (omega arith)
      ]
  moved_sound D (placed e at) h =
      sent_sound p φ c _ e (column_of at) (row_of at) (output p b φ at) (placed_leads D e at h).sound
  moved_sound D (left e t x y) h = rw add-zero (record { out = h.out; past = omega (arith, h.past) })

  pub moved_progress : (D : ℕ) (s : Stage) → Sound p φ c D s → progress p φ s ≤ progress p φ (move_stage p b l s)
  moved_progress D waiting h = omega arith
  moved_progress D (placed e at) h =
      rw (sent_progress p φ c e (column_of at) (row_of at) (output p b φ at)) (omega (arith, (placed_leads D e at h).rises))
  moved_progress D (left e t x y) h = le_refl _

module _ (p : Plan) (ok : PlanOk p) (b : Book) (tr : Traced p b) where
  -- an entry was in an earlier cycle
  pub entry_before : (l : Line) → Mem l b.lines → is_waiting l.stage ≡ false → entry_of l.stage < b.clock
  entry_before l m = before l.stage (tr.sound l m)
    where
      φ : Flow
      φ = flow_at p l.flow

      before : (s : Stage) → Sound p (flow_at p l.flow) b.clock l.D s → is_waiting s ≡ false → entry_of s < b.clock
      before waiting h e = absurd (false≢true (sym e))
      before (placed e at) h w = Path.entered_before p φ (most_by p φ) (line_ok p ok b tr l m) b.clock l.D e at h
      before (left e t x y) h w = omega (arith, h.out.time, h.past)

  pub traced_step : Traced p (stepped p b)
  traced_step =
      record {
        known = λ l m. let k = mem_map b.lines m in rw k.2 (tr.known k.0 k.1);
        sound = λ l m.
            let k = mem_map b.lines m in
            rw k.2 (moved_sound p ok b tr k.0 (line_ok p ok b tr k.0 k.1) k.0.D k.0.stage (tr.sound k.0 k.1));
      }

  pub traced_offer : (f : ℕ) → f < length p.flows → Traced p (offered b f)
  traced_offer f in_plan =
      record {
        known = λ l m. elim (mem_snoc b.lines m) [ inl old ↦ tr.known l old | inr new ↦ rw new in_plan ];
        sound = λ l m. elim (mem_snoc b.lines m) [ inl old ↦ tr.sound l old | inr new ↦ rw new refl ];
      }
