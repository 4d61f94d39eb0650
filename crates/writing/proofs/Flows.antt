-- The flows of a state as records of a file: their numbers fit, and their bytes are those of the plan. Rests on the laws of state.
use mathlib.Core.List.{List, ◌++◌}
use mathlib.Core.Path.{◌≡◌, refl, ap, ◌∙◌}
use Prim.Native.Nat.{ℕ, zero, suc, ◌+◌, ◌*◌, ◌≤◌, ◌<◌}
use native.Mathlib.Nat.{zero-add}
use native.Mathlib.Omega.{arith}
use borrow.Author.Tests.{le-ltb}
use lib.ListN.{length, length-append}
use lib.Seq.{sets}
use Rattle.laws.specs.Bounded.{tabulate}
use Rattle.laws.specs.Count.{join_below}
use Rattle.laws.proofs.Stands.{length_join, sets_append}
use Rattle.flow.specs.declared.Flow.{Flow}
use Rattle.flow.specs.Plan.{most_size}
use Rattle.flow.specs.Ranges.{FlowOk}
use Rattle.refusal.specs.Answer.{Done}
use Rattle.file.specs.Layout.{record_size, trailer_size, most_file}
use Rattle.file.specs.Bytes.{two_bytes, four_bytes}
use Rattle.plan.specs.Written.{record_bytes, records_bytes, trailer_bytes, plan_bytes}
use Rattle.plan.proofs.Written.{records_append}
use Rattle.state.specs.Layout.{flow_place}
use Rattle.state.specs.Read.{sx_in, sy_in, count_in, flow_in, plan_in}
use Rattle.state.specs.Outcome.{outcome, over}
use Rattle.state.specs.Writing.{bytes_on}
use Rattle.state.specs.Facts.{StateFacts}
use Rattle.state.proofs.Over.{over_sets}
use Rattle.state.proofs.View.{view_count}
use Rattle.writing.specs.Parts.{records_in, trailer_from, file_size}

pub record_length : (f : Flow) → length (record_bytes f) ≡ record_size
unfolding record_bytes two_bytes
record_length f = refl

pub trailer_length : (start : ℕ) (w : List ℕ) → length (trailer_bytes start (plan_in w)) ≡ trailer_size
unfolding trailer_bytes four_bytes two_bytes
trailer_length start w = refl

-- a flow of a state, on the largest torus
pub small_flow : (w : List ℕ) → StateFacts w → (f : ℕ) → f < count_in w → FlowOk most_size most_size (flow_in w (flow_place f))
small_flow w s f h =
    let sx = s.header.sx_ok.most in
    let sy = s.header.sy_ok.most in
    let ok = (s.flow f h).numbers in
    record {
      xs_on = omega (arith, ok.xs_on);
      ys_on = omega (arith, ok.ys_on);
      xd_on = omega (arith, ok.xd_on);
      yd_on = omega (arith, ok.yd_on);
      period_least = ok.period_least;
      period_most = ok.period_most;
      burst_least = ok.burst_least;
      burst_most = ok.burst_most;
    }

records_join : (n : ℕ) (g : ℕ → Flow) → records_bytes (tabulate n g) ≡ join_below n (λ i. record_bytes (g i))
unfolding tabulate records_bytes
records_join zero g = refl
records_join (suc n) g = rw (records_append (tabulate n g) (g n), records_join n g)

module _ (w : List ℕ) where
  flow_records : records_bytes (plan_in w).flows ≡ records_in w (count_in w)
  unfolding plan_in
  flow_records = records_join (count_in w) (λ f. flow_in w (flow_place f))

  trailer_is : (start : ℕ) → trailer_from start (count_in w) (sx_in w) (sy_in w) ≡ trailer_bytes start (plan_in w)
  unfolding trailer_bytes four_bytes two_bytes plan_in
  trailer_is start = rw (view_count w)

  module _ (notes : List ℕ) where
    abbrev records : List ℕ
    records = records_bytes (plan_in w).flows

    front_length : length (notes ++ records) ≡ length notes + record_size * count_in w
    front_length =
        let each : length records ≡ record_size * count_in w =
        ap length flow_records ∙ length_join record_size (count_in w) (λ f. record_bytes (flow_in w (flow_place f))) (λ f h. record_length _)
        in
        omega (arith, length-append notes records)

    -- the length of the file to be written
    pub file_length : length (plan_bytes notes (plan_in w)) ≡ file_size notes w
    unfolding plan_bytes
    file_length =
        omega (arith, length-append (notes ++ records) (trailer_bytes (length notes) (plan_in w)), front_length, trailer_length (length notes) w)

    -- the three runs of stores leave the file's bytes, and what lies past them
    pub file_sets : (target : List ℕ) → file_size notes w ≤ length target
        → sets (sets (sets target 0 notes) (length notes) (records_in w (count_in w)))
        (length notes + record_size * count_in w) (trailer_from (length notes) (count_in w) (sx_in w) (sy_in w))
        ≡ over (plan_bytes notes (plan_in w)) target
    unfolding plan_bytes
    file_sets target h =
        let trailer = trailer_bytes (length notes) (plan_in w) in
        rw (← flow_records, trailer_is (length notes), ← front_length)
        (ap (λ l. sets l (length (notes ++ records)) trailer) (rw zero-add at (sets_append target 0 notes records))
        ∙ rw zero-add at (sets_append target 0 (notes ++ records) trailer)
        ∙ over_sets (plan_bytes notes (plan_in w)) target (rw file_length h))

    -- the outcome, where the file is neither too long nor longer than the target
    pub file_outcome : (target after : List ℕ) → file_size notes w ≤ most_file → file_size notes w ≤ length target
        → after ≡ over (plan_bytes notes (plan_in w)) target
        → outcome (Done (file_size notes w)) after ≡ bytes_on (plan_bytes notes (plan_in w)) target
    file_outcome target after h k e =
        let bytes = plan_bytes notes (plan_in w) in
        let long = file_length in
        rw (le-ltb most_file (length bytes) (omega arith), le-ltb (length target) (length bytes) (omega arith), ← file_length)
        (ap (outcome (Done (length bytes))) e)
