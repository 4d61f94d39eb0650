-- The plan of an accepted file lies in 01's ranges. Rests on Accepted.
use mathlib.Core.Bool.{not, ◌||◌}
use mathlib.Core.List.{List}
use mathlib.Core.Path.{◌≡◌, sym}
use Prim.Native.Nat.{ℕ, ◌+◌, ◌-◌, ◌*◌, ◌≤◌, ◌<◌}
use native.Mathlib.Omega.{arith}
use borrow.Author.Tests.{eqb-false, not-false}
use lib.Dec.{eqb}
use lib.ListN.{length, get_or}
use Rattle.laws.proofs.Bounded.{length_tabulate, get_d_tabulate}
use Rattle.laws.proofs.Cases.{or_false, passed}
use Rattle.flow.specs.declared.Flow.{Flow}
use Rattle.flow.proofs.Plan.{FlowOn, on_torus_facts}
use Rattle.flow.specs.Plan.{flow_at, no_flow, on_torus}
use Rattle.flow.specs.Ranges.{FlowOk, PlanOk}
use Rattle.refusal.specs.Answer.{Done}
use Rattle.file.specs.Bytes.{little_endian2}
use Rattle.file.specs.declared.Trailer.{Trailer}
use Rattle.file.specs.Layout.{record_size, trailer_size, trailer_of, period_at, flow_from, record_at, plan_of}
use Rattle.plan.specs.Refusals.{record_number, flow_number, trailer_number, answer_by, records_answer, plan_answer}
use Rattle.plan.proofs.Refusals.{or_else_done, first_done}
use Rattle.plan.proofs.Accepted.{done_trailed}

-- a file's entries are bytes
abbrev pub Bytes : List ℕ → Type 0
Bytes file = (i : ℕ) → get_or file i 0 < 256

-- a flow whose record is not refused
record RecordOk (sx sy : ℕ) (f : Flow) : Type 0 where
  is_on_torus : FlowOn sx sy f
  period_least : 1 ≤ f.period
  burst_least : 1 ≤ f.burst

record_ok : (sx sy : ℕ) (f : Flow) → record_number sx sy f ≡ 0 → RecordOk sx sy f
unfolding record_number
record_ok sx sy f e =
    let six = passed (not (on_torus sx sy f)) 5 _ e in
    let seven = passed (eqb f.period 0 || eqb f.burst 0) 6 _ six.1 in
    let rates = or_false (eqb f.period 0) (eqb f.burst 0) seven.0 in
    let p = eqb-false f.period 0 rates.0 in
    let b = eqb-false f.burst 0 rates.1 in
    record {
      is_on_torus = on_torus_facts sx sy f (not-false (on_torus sx sy f) six.0);
      period_least = omega arith;
      burst_least = omega arith;
    }

-- every record of an accepted file
done_records : (file : List ℕ) (v : ℕ) → plan_answer file ≡ Done v
    → (f : ℕ) → f < (trailer_of file).count
    → let t = trailer_of file in RecordOk t.sx t.sy (flow_from file (record_at t f))
unfolding plan_answer flow_number
done_records file v e f l =
    let parts = or_else_done (answer_by (trailer_number file) 0) (records_answer file (trailer_of file)) v e in
    record_ok _ _ _ (first_done (flow_number file (trailer_of file)) (trailer_of file).count v parts.2 f l)

module _ (file : List ℕ) where
  -- flow f of the plan is the one that record f has
  pub plan_flow : (f : ℕ) → f < (trailer_of file).count → flow_at (plan_of file) f ≡ flow_from file (record_at (trailer_of file) f)
  unfolding plan_of
  plan_flow f l = get_d_tabulate (trailer_of file).count (λ f. flow_from file (record_at (trailer_of file) f)) f no_flow l

  pub plan_count : length (plan_of file).flows ≡ (trailer_of file).count
  unfolding plan_of
  plan_count = length_tabulate (trailer_of file).count (λ f. flow_from file (record_at (trailer_of file) f))

  module _ (v : ℕ) (e : plan_answer file ≡ Done v) (bytes : Bytes file) where
    flow_ok : (f : ℕ) → f < (trailer_of file).count → FlowOk (trailer_of file).sx (trailer_of file).sy (flow_from file (record_at (trailer_of file) f))
    unfolding flow_from period_at little_endian2
    flow_ok f l =
        let r = done_records file v e f l in
        let at = record_at (trailer_of file) f in
        record {
          xs_on = r.is_on_torus.xs_on;
          ys_on = r.is_on_torus.ys_on;
          xd_on = r.is_on_torus.xd_on;
          yd_on = r.is_on_torus.yd_on;
          period_least = r.period_least;
          period_most = omega (arith, bytes (at + 4), bytes (at + 4 + 1), bytes (at + 7));
          burst_least = r.burst_least;
          burst_most = omega (arith, bytes (at + 6));
        }

    pub plan_ok : PlanOk (plan_of file)
    unfolding plan_of
    plan_ok =
        let t = done_trailed file v e in
        record {
          sx_least = t.frame.sx_ok.least;
          sx_most = t.frame.sx_ok.most;
          sy_least = t.frame.sy_ok.least;
          sy_most = t.frame.sy_ok.most;
          flows_least = rw plan_count t.frame.count_least;
          flows_most = rw plan_count t.frame.count_most;
          flow_ok = λ f l. let below = rw plan_count at l in rw (plan_flow f below) (flow_ok f below);
        }

-- flow f of an accepted file with its trailer: its record stands in the file, and has the plan's flow
module _ (file : List ℕ) (t : Trailer) (f : ℕ) (e : plan_answer file ≡ Done 0) (is : t ≡ trailer_of file) (l : f < t.count) where
  pub flow_long : t.start + record_size * f + record_size ≤ length file
  flow_long =
      let trailed = done_trailed file 0 e in
      let ends : t.start + record_size * t.count ≡ length file - trailer_size = rw is trailed.frame.ends in
      omega (arith, trailed.long)

  pub flow_read : flow_from file (t.start + record_size * f) ≡ flow_at (plan_of file) f
  flow_read = rw is (sym (plan_flow file f (rw is at l)))
