-- Where the facts of words that form a state come from. Rests on specs/Forms and specs/Facts.
use mathlib.Core.Bool.{Bool, true, not, ◌&&◌}
use mathlib.Core.List.{List}
use mathlib.Core.Path.{◌≡◌, sym, ap, ◌∙◌}
use Prim.Native.Nat.{ℕ, ◌+◌, ◌-◌, ◌≤◌, ◌<◌}
use borrow.Author.Tests.{ltb-true, ltb-false, leb-true, eqb-true, not-false}
use lib.Dec.{ltb, leb, eqb}
use lib.ListN.{length, get_or}
use Rattle.laws.specs.Bounded.{all_below}
use Rattle.laws.proofs.Cases.{and_true, passed}
use Rattle.laws.proofs.Bounded.{all_at}
use Rattle.flow.specs.declared.Flow.{Flow}
use Rattle.flow.proofs.Plan.{on_torus_facts}
use Rattle.flow.specs.Plan.{on_torus, most_flows, most_period, most_burst}
use Rattle.flow.specs.Ranges.{FlowOk}
use Rattle.bucket.specs.Regulator.{bucket_fits}
use Rattle.bucket.proofs.Regulator.{fitting_count}
use Rattle.plan.specs.Refusals.{size_ok}
use Rattle.plan.proofs.Accepted.{size_ok_lem}
use Rattle.place.specs.Place.{Place, W, N}
use Rattle.flow.specs.Limits.{most_waiting}
use Rattle.place.specs.InPlace.{is_in_place}
use Rattle.std.specs.Prelude.{Some, None}
use Rattle.state.specs.Register.{packet_with}
use Rattle.state.specs.declared.Tally.{Tally}
use Rattle.state.specs.Layout.{header_size, zeros_place, register_size, flow_place}
use Rattle.state.specs.Read.{sx_in, sy_in, count_in, clock_in, flow_in, tally_in, register_in, router_in}
use Rattle.state.specs.Facts.{HeaderFacts, TallyFacts, FlowFacts, StateFacts}
use Rattle.state.specs.Forms.{header_fits, numbers_fit, tally_fits, flow_fits, contents_fit, register_fits, cell_fits, rest_fits, size_in, state_number}

-- a packet in a register
pub record PacketFacts (w : List ℕ) (place : Place) (flow serial entry deflections : ℕ) : Type 0 where
  pub flow_below : flow < count_in w
  pub in_place : is_in_place (sx_in w) (sy_in w) (flow_in w (flow_place flow)) place deflections (clock_in w - entry) ≡ true

pub header_facts : (w : List ℕ) → header_fits w ≡ true → HeaderFacts w
unfolding header_fits
header_facts w e =
    let zero : ℕ → Bool = λ k. eqb (get_or w (zeros_place + k) 0) 0 in
    let all = and_true (size_ok (sx_in w) && size_ok (sy_in w) && (leb 1 (count_in w) && leb (count_in w) most_flows)) (all_below 4 zero) e in
    let sizes = and_true (size_ok (sx_in w) && size_ok (sy_in w)) (leb 1 (count_in w) && leb (count_in w) most_flows) all.0 in
    let both = and_true (size_ok (sx_in w)) (size_ok (sy_in w)) sizes.0 in
    let count = and_true (leb 1 (count_in w)) (leb (count_in w) most_flows) sizes.1 in
    record {
      sx_ok = size_ok_lem (sx_in w) both.0;
      sy_ok = size_ok_lem (sy_in w) both.1;
      count_least = leb-true 1 (count_in w) count.0;
      count_most = leb-true (count_in w) most_flows count.1;
      zeros = λ k h. eqb-true _ _ (all_at zero 4 all.1 k h);
    }

pub numbers_facts : (sx sy : ℕ) (f : Flow) → numbers_fit sx sy f ≡ true → FlowOk sx sy f
unfolding numbers_fit
numbers_facts sx sy f e =
    let all = and_true (on_torus sx sy f && (leb 1 f.period && leb f.period most_period)) (leb 1 f.burst && leb f.burst most_burst) e in
    let rates = and_true (on_torus sx sy f) (leb 1 f.period && leb f.period most_period) all.0 in
    let period = and_true (leb 1 f.period) (leb f.period most_period) rates.1 in
    let burst = and_true (leb 1 f.burst) (leb f.burst most_burst) all.1 in
    let on = on_torus_facts sx sy f rates.0 in
    record {
      xs_on = on.xs_on;
      ys_on = on.ys_on;
      xd_on = on.xd_on;
      yd_on = on.yd_on;
      period_least = leb-true 1 _ period.0;
      period_most = leb-true _ most_period period.1;
      burst_least = leb-true 1 _ burst.0;
      burst_most = leb-true _ most_burst burst.1;
    }

pub tally_facts : (clock : ℕ) (f : Flow) (t : Tally) → tally_fits clock f t ≡ true → TallyFacts clock f t
unfolding tally_fits
tally_facts clock f t e =
    let all = and_true (bucket_fits f.burst f.period t.bucket && leb t.waiting most_waiting) (leb t.entered clock) e in
    let both = and_true (bucket_fits f.burst f.period t.bucket) (leb t.waiting most_waiting) all.0 in
    record {
      count_below = fitting_count f.burst f.period t.bucket both.0;
      waiting_most = leb-true _ most_waiting both.1;
      entered_most = leb-true _ clock all.1;
    }

pub flow_facts : (w : List ℕ) (f : ℕ) → flow_fits w f ≡ true → FlowFacts w f
unfolding flow_fits
flow_facts w f e =
    let φ = flow_in w (flow_place f) in
    let both = and_true (numbers_fit (sx_in w) (sy_in w) φ) (tally_fits (clock_in w) φ (tally_in w (flow_place f))) e in
    record { numbers = numbers_facts _ _ _ both.0; tally = tally_facts _ _ _ both.1 }

-- an empty register is four zeros
pub empty_facts : (w : List ℕ) (place : Place) (at : ℕ) → register_fits w place at ≡ true → register_in w at ≡ None
    → (k : ℕ) → k < register_size → get_or w (at + k) 0 ≡ 0
unfolding register_fits
empty_facts w place at e r k h =
    eqb-true _ _ (all_at (λ k. eqb (get_or w (at + k) 0) 0) register_size (ap (contents_fit w place at) (sym r) ∙ e) k h)

-- without a packet, four zeros decide
pub empty_fits : (w : List ℕ) (place : Place) (at : ℕ) → eqb (get_or w at 0) 0 ≡ true
    → register_fits w place at ≡ all_below register_size (λ k. eqb (get_or w (at + k) 0) 0)
unfolding register_fits
empty_fits w place at e = rw e

pub packet_facts : (w : List ℕ) (place : Place) (at : ℕ) → register_fits w place at ≡ true
    → (flow serial entry deflections : ℕ) → register_in w at ≡ Some (packet_with flow serial entry deflections)
    → PacketFacts w place flow serial entry deflections
unfolding register_fits
packet_facts w place at e flow serial entry deflections r =
    let there = is_in_place (sx_in w) (sy_in w) (flow_in w (flow_place flow)) place deflections (clock_in w - entry) in
    let serials = leb 1 serial && leb serial (tally_in w (flow_place flow)).entered in
    let all = and_true (ltb flow (count_in w) && serials) (ltb entry (clock_in w) && there) (ap (contents_fit w place at) (sym r) ∙ e) in
    record {
      flow_below = ltb-true _ _ (and_true (ltb flow (count_in w)) serials all.0).0;
      in_place = (and_true (ltb entry (clock_in w)) there all.1).1;
    }

-- what the tests of a call on a state leave
passes : (w : List ℕ) → state_number w ≡ 0 → (header_fits w ≡ true) × (size_in w ≤ length w) × (rest_fits w ≡ true)
unfolding state_number
passes w e =
    let eight = passed (ltb (length w) header_size) 7 _ e in
    let first = passed (not (header_fits w)) 8 _ eight.1 in
    let size = passed (ltb (length w) (size_in w)) 7 _ first.1 in
    let rest = passed (not (rest_fits w)) 8 0 size.1 in
    (not-false (header_fits w) first.0, ltb-false _ _ size.0, not-false (rest_fits w) rest.0)

pub flow_fits_lem : (w : List ℕ) → state_number w ≡ 0 → (f : ℕ) → f < count_in w → flow_fits w f ≡ true
unfolding rest_fits
flow_fits_lem w e = all_at (flow_fits w) (count_in w) (and_true (all_below (count_in w) (flow_fits w)) _ (passes w e).2).0

pub state_facts : (w : List ℕ) → state_number w ≡ 0 → StateFacts w
unfolding rest_fits cell_fits
state_facts w e =
    let all = passes w e in
    let cells = (and_true (all_below (count_in w) (flow_fits w)) _ all.2).1 in
    record {
      header = header_facts w all.0;
      long = all.1;
      flow = λ f h. flow_facts w f (flow_fits_lem w e f h);
      west = λ x y h k. (cell cells x y h k).0;
      north = λ x y h k. (cell cells x y h k).1;
    }
  where
    cell : all_below (sy_in w) (λ y. all_below (sx_in w) (λ x. cell_fits w x y)) ≡ true → (x y : ℕ) → x < sx_in w → y < sy_in w
        → (register_fits w (W x y) (router_in w x y) ≡ true) × (register_fits w (N x y) (router_in w x y + register_size) ≡ true)
    cell all x y h k =
        let row = all_at (λ y. all_below (sx_in w) (λ x. cell_fits w x y)) (sy_in w) all y k in
        and_true (register_fits w (W x y) (router_in w x y)) _ (all_at (λ x. cell_fits w x y) (sx_in w) row x h)
