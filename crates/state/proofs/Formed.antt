-- The words of a state whose numbers fit form a state, and words that form a state have one whose numbers fit. Rests on Read, View and
-- Forms.
use mathlib.Core.Bool.{Bool, true, ◌&&◌}
use mathlib.Core.List.{List}
use mathlib.Core.Path.{◌≡◌, refl, ap, ◌∙◌}
use Prim.Native.Nat.{ℕ, ◌+◌, ◌-◌, ◌≤◌, ◌<◌}
use native.Mathlib.Omega.{arith}
use borrow.Author.Tests.{lt-ltb, le-leb, le-ltb, eq-eqb, ltb-true}
use lib.Dec.{ltb, leb, eqb}
use lib.ListN.{length, get_or, get_or-replicate}
use Rattle.laws.specs.Bounded.{all_below}
use Rattle.laws.proofs.Cases.{and_true}
use Rattle.laws.proofs.Bounded.{all_intro}
use Rattle.laws.proofs.Stands.{Stands}
use Rattle.flow.specs.declared.Flow.{Flow}
use Rattle.flow.specs.Plan.{flow_at, most_size, most_flows, most_period, most_burst}
use Rattle.flow.specs.Ranges.{FlowOk, PlanOk}
use Rattle.place.specs.Place.{Place, W, N}
use Rattle.place.specs.InPlace.{is_in_place}
use Rattle.state.specs.Register.{Register}
use Rattle.std.specs.Prelude.{Some, None}
use Rattle.state.specs.Layout.{header_size, register_size, flow_place, router_place}
use Rattle.state.specs.State.{State, tally_at, cell_at}
use Rattle.state.specs.Words.{register_words, state_words}
use Rattle.state.specs.Read.{sx_in, sy_in, count_in, clock_in, flow_in, tally_in, register_in, router_in, plan_in, state_of}
use Rattle.state.specs.Forms.{header_fits, numbers_fit, tally_fits, flow_fits, contents_fit, register_fits, cell_fits, rest_fits, size_in, state_number}
use Rattle.state.specs.Facts.{StateFacts}
use Rattle.state.proofs.Words.{length_words}
use Rattle.state.proofs.Read.{held, west_part, north_part, register_read, sx_read, sy_read, count_read, clock_read, flow_at_read, tally_at_read}
use Rattle.state.proofs.View.{view_count, view_flow, view_tally, view_cell}
use Rattle.state.proofs.Forms.{flow_fits_lem, state_facts}

-- a packet's numbers fit: 01's conditions on a register, of a state
abbrev pub register_ok : State → Place → Register → Bool
register_ok s place None = true
register_ok s place (Some packet) =
    ltb packet.flow (length s.plan.flows)
    && (leb 1 packet.serial && leb packet.serial (tally_at s packet.flow).entered)
    && (ltb packet.entry s.clock && is_in_place s.plan.sx s.plan.sy (flow_at s.plan packet.flow) place packet.deflections (s.clock - packet.entry))

-- a state whose numbers fit
pub record StateOk (s : State) : Type 0 where
  pub plan_ok : PlanOk s.plan
  pub tally_ok : (f : ℕ) → f < length s.plan.flows → tally_fits s.clock (flow_at s.plan f) (tally_at s f) ≡ true
  pub west_ok : (x y : ℕ) → x < s.plan.sx → y < s.plan.sy → register_ok s (W x y) (cell_at s x y).west ≡ true
  pub north_ok : (x y : ℕ) → x < s.plan.sx → y < s.plan.sy → register_ok s (N x y) (cell_at s x y).north ≡ true

numbers_true : (sx sy : ℕ) (f : Flow) → FlowOk sx sy f → numbers_fit sx sy f ≡ true
unfolding numbers_fit
numbers_true sx sy f ok =
    rw (
      lt-ltb _ _ ok.xs_on,
      lt-ltb _ _ ok.ys_on,
      lt-ltb _ _ ok.xd_on,
      lt-ltb _ _ ok.yd_on,
      le-leb 1 _ ok.period_least,
      le-leb _ most_period ok.period_most,
      le-leb 1 _ ok.burst_least,
      le-leb _ most_burst ok.burst_most,
    )

module _ (s : State) (ok : StateOk s) (w : List ℕ) (h : Stands 0 w 0 (state_words s)) where
  header_true : header_fits w ≡ true
  unfolding header_fits all_below
  header_true =
      let p = ok.plan_ok in
      let first = (held s w h).front.head in
      rw (
        sx_read s w h,
        sy_read s w h,
        count_read s w h,
        first.same 4 (omega arith),
        first.same 5 (omega arith),
        first.same 6 (omega arith),
        first.same 7 (omega arith),
        le-leb 1 _ p.sx_least,
        le-leb _ most_size p.sx_most,
        le-leb 1 _ p.sy_least,
        le-leb _ most_size p.sy_most,
        le-leb 1 _ p.flows_least,
        le-leb _ most_flows p.flows_most,
      )

  flow_true : (f : ℕ) → f < length s.plan.flows → flow_fits w f ≡ true
  unfolding flow_fits
  flow_true f l =
      rw (
        sx_read s w h,
        sy_read s w h,
        clock_read s w h,
        flow_at_read s w h f l,
        tally_at_read s w h f l,
        numbers_true _ _ _ (ok.plan_ok.flow_ok f l),
        ok.tally_ok f l,
      )

  contents_true : (place : Place) (at : ℕ) (r : Register) → Stands 0 w at (register_words r) → register_ok s place r ≡ true
      → contents_fit w place at r ≡ true
  contents_true place at None t e =
      all_intro (λ k. eqb (get_or w (at + k) 0) 0) register_size (λ k l. eq-eqb _ 0 (t.same k l ∙ get_or-replicate 4 k 0 0 l))
  contents_true place at (Some packet) t e =
      let F = length s.plan.flows in
      let serials = leb 1 packet.serial && leb packet.serial (tally_at s packet.flow).entered in
      let parts = and_true (ltb packet.flow F && serials) _ e in
      let l : packet.flow < F = ltb-true packet.flow F (and_true (ltb packet.flow F) serials parts.0).0 in
      let entered : (tally_in w (flow_place packet.flow)).entered ≡ (tally_at s packet.flow).entered = ap (λ t. t.entered) (tally_at_read s w h packet.flow l) in
      rw (count_read s w h, clock_read s w h, sx_read s w h, sy_read s w h, flow_at_read s w h packet.flow l, entered) e

  register_true : (place : Place) (at : ℕ) (r : Register) → Stands 0 w at (register_words r) → register_ok s place r ≡ true
      → register_fits w place at ≡ true
  unfolding register_fits
  register_true place at r t e = ap (contents_fit w place at) (register_read w at r t) ∙ contents_true place at r t e

  cell_true : (x y : ℕ) → x < s.plan.sx → y < s.plan.sy → cell_fits w x y ≡ true
  unfolding cell_fits
  cell_true x y l m =
      let c = cell_at s x y in
      let at = router_place (length s.plan.flows) s.plan.sx x y in
      let t = (held s w h).router x y l m in
      rw (
        count_read s w h,
        sx_read s w h,
        register_true (W x y) at c.west (west_part w at c t) (ok.west_ok x y l m),
        register_true (N x y) (at + register_size) c.north (north_part w at c t) (ok.north_ok x y l m),
      )

  -- as many words as the header asks for
  size_true : size_in w ≤ length w
  size_true = rw (count_read s w h, sx_read s w h, sy_read s w h) (omega (arith, length_words s, h.fits))

  -- the words of the state form a state
  pub words_form : state_number w ≡ 0
  unfolding state_number rest_fits
  words_form =
      let cells : (y : ℕ) → y < sy_in w → all_below (sx_in w) (λ x. cell_fits w x y) ≡ true =
      λ y m. all_intro (λ x. cell_fits w x y) (sx_in w) (λ x l. cell_true x y (rw (sx_read s w h) at l) (rw (sy_read s w h) at m))
      in
      rw (
        le-ltb (length w) header_size (omega (arith, size_true)),
        header_true,
        le-ltb (length w) (size_in w) size_true,
        all_intro (flow_fits w) (count_in w) (λ f l. flow_true f (rw (count_read s w h) at l)),
        all_intro (λ y. all_below (sx_in w) (λ x. cell_fits w x y)) (sy_in w) cells,
      )

-- and words that form a state have one whose numbers fit
module _ (w : List ℕ) (h : state_number w ≡ 0) where
  facts : StateFacts w
  facts = state_facts w h

  plan_fits : PlanOk (state_of w).plan
  unfolding state_of plan_in
  plan_fits =
      let header = facts.header in
      record {
        sx_least = header.sx_ok.least;
        sx_most = header.sx_ok.most;
        sy_least = header.sy_ok.least;
        sy_most = header.sy_ok.most;
        flows_least = rw (view_count w) header.count_least;
        flows_most = rw (view_count w) header.count_most;
        flow_ok = λ f l. let m : f < count_in w = rw (view_count w) at l in rw (view_flow w f m) (facts.flow f m).numbers;
      }

  tally_fits_lem : (f : ℕ) → f < count_in w → tally_fits (clock_in w) (flow_in w (flow_place f)) (tally_in w (flow_place f)) ≡ true
  unfolding flow_fits
  tally_fits_lem f l = (and_true (numbers_fit (sx_in w) (sy_in w) (flow_in w (flow_place f))) _ (flow_fits_lem w h f l)).1

  register_fits_lem : (place : Place) (at : ℕ) → register_fits w place at ≡ true → register_ok (state_of w) place (register_in w at) ≡ true
  unfolding register_fits state_of plan_in
  register_fits_lem place at e = of (register_in w at) e
    where
      of : (r : Register) → contents_fit w place at r ≡ true → register_ok (state_of w) place r ≡ true
      of None e = refl
      of (Some packet) e =
          let serials = leb 1 packet.serial && leb packet.serial (tally_in w (flow_place packet.flow)).entered in
          let parts = and_true (ltb packet.flow (count_in w) && serials) _ e in
          let l : packet.flow < count_in w = ltb-true packet.flow (count_in w) (and_true (ltb packet.flow (count_in w)) serials parts.0).0 in
          rw (view_count w, view_tally w packet.flow l, view_flow w packet.flow l) e

  pub state_fits : StateOk (state_of w)
  unfolding state_of plan_in
  state_fits =
      record {
        plan_ok = plan_fits;
        tally_ok = λ f l. let m : f < count_in w = rw (view_count w) at l in rw (view_tally w f m, view_flow w f m) (tally_fits_lem f m);
        west_ok = λ x y l m. rw (view_cell w x y l m) (register_fits_lem (W x y) (router_in w x y) (facts.west x y l m));
        north_ok = λ x y l m. rw (view_cell w x y l m) (register_fits_lem (N x y) (router_in w x y + register_size) (facts.north x y l m));
      }
