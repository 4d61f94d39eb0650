-- The promises of the packet book, for every accepted plan and every list of calls from its start. Rests on Kept and State.
use mathlib.Core.Bool.{Bool, true, ◌&&◌}
use mathlib.Core.List.{List, Memᴰ as Mem}
use mathlib.Core.Path.{◌≡◌, refl, ap}
use Prim.Native.Nat.{ℕ, suc, ◌+◌, ◌-◌, ◌≤◌, ◌<◌}
use native.Mathlib.Nat.{le_trans}
use native.Mathlib.Omega.{arith}
use borrow.Author.Tests.{eq-eqb, eqb-true}
use lib.Dec.{eqb}
use lib.ListN.{length}
use Rattle.laws.specs.Count.{count}
use Rattle.laws.proofs.Cases.{and_true, eqb_both, both_eqb}
use Rattle.laws.proofs.Count.{mem_count, count_find, count_mono}
use Rattle.flow.specs.Plan.{Plan, flow_at}
use Rattle.flow.specs.Ranges.{PlanOk}
use Rattle.std.specs.Prelude.{Some}
use Rattle.window.specs.Window.{interference, window_of}
use Rattle.window.proofs.Windows.{window_least}
use Rattle.flight.specs.Flight.{most_deflections}
use Rattle.flight.proofs.Flight.{deflections_few}
use Rattle.router.specs.Delivery.{Delivery}
use Rattle.book.specs.Line.{Line, is_left}
use Rattle.book.specs.Book.{Book, of_flow}
use Rattle.book.specs.Cycle.{delivery_of}
use Rattle.book.specs.Feed.{Call, run}
use Rattle.book.specs.Promises.{deadline, EntersBy, same_words, Promises}
use Rattle.book.proofs.Moves.{by_stage}
use Rattle.book.proofs.Queue.{Queued, serial_range, serial_once}
use Rattle.book.proofs.Traced.{line_ok}
use Rattle.book.proofs.Spans.{Lawful}
use Rattle.book.proofs.Pace.{Pace, waiting_due}
use Rattle.book.proofs.Deliveries.{gone}
use Rattle.book.proofs.Kept.{Kept, kept_run, delivered_run}
use Rattle.book.proofs.State.{sound_flies, sound_deflections}

module _ (p : Plan) (b : Book) (k : Kept p b) where
  abbrev law : Lawful p b
  law = k.lawful

  enters_in_time : (l : Line) → Mem l b.lines → (T : ℕ) → window_of p l.flow ≡ Some T → EntersBy (deadline p l T) b.clock l.stage
  enters_in_time l m T e =
      by_stage _ _ l.stage
      (λ w. omega (arith, waiting_due p l.flow known T H sum free b law pace l m refl w))
      (λ w. omega (arith, pace.timely l m refl w))
    where
      known : l.flow < length p.flows
      known = law.traced.known l m

      H : ℕ
      H = (flow_at p l.flow).period + T - 1

      free : interference p l.flow T < T
      free = omega (arith, (window_least p l.flow T e).free)

      sum : suc H ≡ (flow_at p l.flow).period + T
      sum = omega (arith, (window_least p l.flow T e).from)

      pace : Pace p b l.flow T H
      pace = k.pace l.flow known T H sum free

  -- what has left was delivered, and the other way round, whatever is asked of a delivery
  module _ (ds : List Delivery) (told : (r : Delivery → Bool) → count (gone r) b.lines ≡ count r ds) where
    -- a delivery's five words are this line's
    abbrev delivers : Line → Delivery → Bool
    delivers l d = same_words d (delivery_of l)

    same_refl : (d : Delivery) → same_words d d ≡ true
    same_refl d =
        rw (own d.flow, own d.serial, own d.entry, own d.exit, own d.D)
      where
        own : (n : ℕ) → eqb n n ≡ true
        own n = eq-eqb n n refl

    same_is : (d e : Delivery) → same_words d e ≡ true → d ≡ e
    same_is d e t =
        let first = eqb d.flow e.flow && eqb d.serial e.serial in
        let D = and_true (first && eqb d.entry e.entry && eqb d.exit e.exit) (eqb d.D e.D) t in
        let exit = and_true (first && eqb d.entry e.entry) (eqb d.exit e.exit) D.0 in
        let entry = and_true first (eqb d.entry e.entry) exit.0 in
        let number = eqb_both d.flow e.flow d.serial e.serial entry.0 in
        λ i.
        record {
          flow = number.0 i;
          serial = number.1 i;
          entry = eqb-true d.entry e.entry entry.1 i;
          exit = eqb-true d.exit e.exit exit.1 i;
          D = eqb-true d.D e.D D.1 i;
        }

    once : (l : Line) → Mem l b.lines → is_left l.stage ≡ true → count (delivers l) ds ≡ 1
    once l m has_exit =
        let range = serial_range b law.queued l m in
        omega (
          arith,
          told (delivers l),
          mem_count (gone (delivers l)) b.lines m (rw has_exit (same_refl (delivery_of l))),
          count_mono (gone (delivers l)) own b.lines (λ h n t. same h t),
          serial_once b law.queued l.flow l.serial range.0 range.1,
        )
      where
        own : Line → Bool
        own h = of_flow l.flow h && eqb h.serial l.serial

        same : (h : Line) → gone (delivers l) h ≡ true → own h ≡ true
        same h t =
            let e = same_is (delivery_of h) (delivery_of l) (and_true (is_left h.stage) (delivers l (delivery_of h)) t).1 in
            both_eqb h.flow l.flow h.serial l.serial (ap (λ (d : Delivery). d.flow) e) (ap (λ (d : Delivery). d.serial) e)

    only : (d : Delivery) → Mem d ds → (l : Line) × Mem l b.lines × (is_left l.stage ≡ true) × (d ≡ delivery_of l)
    only d m =
        let some : 1 ≤ count (gone (same_words d)) b.lines = rw (told (same_words d)) (mem_count (same_words d) ds m (same_refl d)) in
        let l = count_find (gone (same_words d)) b.lines some in
        let h = and_true _ _ l.2 in
        (l.0, l.1, h.0, same_is d (delivery_of l.0) h.1)

    few : (l : Line) → Mem l b.lines → l.D ≤ most_deflections p (flow_at p l.flow)
    few l m = sound_deflections p _ (line_ok p law.plan b law.traced l m) b.clock l.D l.stage (law.traced.sound l m)

    kept_promises : Promises p b ds
    kept_promises =
        record {
          enters_by = enters_in_time;
          deflections_most = λ l m. le_trans (few l m) (deflections_few p (flow_at p l.flow));
          deflections_turning = few;
          flies = λ l m.
              sound_flies p _ (line_ok p law.plan b law.traced l m) b.clock l.D l.stage (law.traced.sound l m);
          delivered_once = once;
          delivered_only = only;
          apart = k.apart;
        }

-- the packet book keeps its promises
pub promises : (p : Plan) → PlanOk p → (calls : List Call) → Promises p (run p calls).book (run p calls).delivered
promises p ok calls = kept_promises p (run p calls).book (kept_run p ok calls) (run p calls).delivered (λ r. delivered_run p ok r calls)

-- a flow's serials are 1..n in the order of its offers, the entered ones first
pub numbered : (p : Plan) → PlanOk p → (calls : List Call) → Queued (run p calls).book
numbered p ok calls = (kept_run p ok calls).lawful.queued
