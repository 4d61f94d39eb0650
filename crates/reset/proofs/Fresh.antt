-- Header, fresh flows and empty registers, written one behind the other, hold the reset state. Rests on the laws of a state's words.
use mathlib.Core.List.{List, [], ◌∷◌}
use mathlib.Core.Logic.{inl}
use mathlib.Core.Path.{◌≡◌, refl, ap, ◌∙◌}
use Prim.Native.Nat.{ℕ, zero, suc, ◌*◌, ◌≤◌, ◌<◌}
use native.Mathlib.Omega.{arith}
use lib.ListN.{length, drop, replicate}
use lib.Seq.{sets, length-sets}
use Rattle.std.proofs.lemmas.List.{replicate-append-replicate}
use Rattle.laws.specs.Count.{join_below}
use Rattle.laws.specs.Grid.{cell_index}
use Rattle.laws.proofs.Bounded.{length_tabulate, get_d_tabulate}
use Rattle.laws.proofs.Stands.{length_join, join_stands, stands_in, stands_sets, stands_other, drop_sets}
use Rattle.laws.proofs.Grid.{get_d_grid, cell_below}
use Rattle.flow.specs.Plan.{Plan, flow_at}
use Rattle.refusal.specs.Answer.{Done}
use Rattle.plan.specs.Refusals.{trailer_number, answer_by, records_answer, plan_answer}
use Rattle.plan.proofs.Refusals.{or_else_done, answer_done}
use Rattle.plan.proofs.Ranges.{plan_count}
use Rattle.file.specs.Layout.{trailer_of, flow_from, record_at, plan_of}
use Rattle.state.specs.Layout.{header_size, flow_size, router_size, flow_place, state_size, plan_size}
use Rattle.state.specs.State.{tally_at, cell_at, fresh_tally, empty_cell, reset_state}
use Rattle.state.specs.Words.{header_words, cell_words, state_words}
use Rattle.state.specs.Outcome.{over}
use Rattle.state.proofs.Holds.{Front, registers_written, hold_same, hold_over}
use Rattle.reset.specs.Fresh.{fresh_words, fresh_flows}

module _ (p : Plan) where
  abbrev registers_empty : List ℕ
  registers_empty = join_below (p.sx * p.sy) (λ i. cell_words empty_cell)

  pub fresh_tally_lem : (f : ℕ) → f < length p.flows → tally_at (reset_state p) f ≡ fresh_tally (flow_at p f).burst
  fresh_tally_lem f h = get_d_tabulate (length p.flows) (λ f. fresh_tally (flow_at p f).burst) f (fresh_tally 0) h

  pub empty_cell_lem : (x y : ℕ) → x < p.sx → y < p.sy → cell_at (reset_state p) x y ≡ empty_cell
  empty_cell_lem x y h k = get_d_grid p.sx p.sy (λ x y. empty_cell) empty_cell x y h k

  module _ (w : List ℕ) (room : plan_size p ≤ length w) where
    abbrev headed : List ℕ
    headed = sets w 0 (header_words p 0)

    abbrev flowed : List ℕ
    flowed = sets headed header_size (fresh_flows p)

    flows_length : length (fresh_flows p) ≡ flow_size * length p.flows
    flows_length = length_join flow_size (length p.flows) (λ f. fresh_words (flow_at p f)) (λ f h. refl)

    front : Front p 0 (λ f. fresh_tally (flow_at p f).burst) (drop (plan_size p) w) flowed
    front =
        let long = flows_length in
        record {
          room = rw (length-sets, length-sets) room;
          head = stands_other 0 headed 0 (header_words p 0) header_size (fresh_flows p) (stands_sets 0 w 0 (header_words p 0) (omega arith)) (inl (omega arith));
          flow = λ f h. stands_in 0 flowed (fresh_flows p) (fresh_words (flow_at p f)) header_size (flow_size * f)
              (stands_sets 0 headed header_size (fresh_flows p) (rw length-sets (omega arith)))
              (join_stands 0 flow_size _ (λ f. fresh_words (flow_at p f)) (λ f h. refl) f h);
          past = drop_sets headed header_size (fresh_flows p) (plan_size p) (omega arith) ∙ drop_sets w 0 (header_words p 0) (plan_size p) (omega arith);
        }

    -- the three runs of stores leave the reset state's words, and what lies past them
    pub reset_sets : sets flowed (flow_place (length p.flows)) registers_empty ≡ over (state_words (reset_state p)) w
    reset_sets =
        hold_over (reset_state p) _ w
        (hold_same p 0 _ (λ x y. empty_cell) _ _
        (registers_written p 0 _ _ flowed front (λ x y. empty_cell) registers_empty
        (length_join router_size _ (λ i. cell_words empty_cell) (λ i h. refl))
        (λ x y h k. join_stands 0 router_size _ (λ i. cell_words empty_cell) (λ i h. refl) (cell_index p.sx x y) (cell_below p.sx p.sy x y h k)))
        (tally_at (reset_state p)) (cell_at (reset_state p)) fresh_tally_lem empty_cell_lem)

-- an empty router's words are zeros
zeros : (n : ℕ) → join_below n (λ i. cell_words empty_cell) ≡ replicate (router_size * n) 0
zeros zero = refl
zeros (suc n) = rw (zeros n) (replicate-append-replicate (router_size * n) 8 0 ∙ ap (λ m. replicate m 0) (omega arith))

-- the same by the numbers of a file's trailer
module _ (file : List ℕ) where
  sx_is : (plan_of file).sx ≡ (trailer_of file).sx
  unfolding plan_of
  sx_is = refl

  sy_is : (plan_of file).sy ≡ (trailer_of file).sy
  unfolding plan_of
  sy_is = refl

  pub size_is : plan_size (plan_of file) ≡ state_size (trailer_of file).count (trailer_of file).sx (trailer_of file).sy
  unfolding plan_of
  size_is = rw (length_tabulate (trailer_of file).count (λ f. flow_from file (record_at (trailer_of file) f)))

  pub file_sets : (w : List ℕ) → plan_size (plan_of file) ≤ length w
      → let t = trailer_of file in
      sets (sets (sets w 0 (t.sx ∷ t.sy ∷ t.count ∷ 0 ∷ 0 ∷ 0 ∷ 0 ∷ 0 ∷ [])) header_size (fresh_flows (plan_of file)))
      (flow_place t.count) (replicate (router_size * (t.sx * t.sy)) 0)
      ≡ over (state_words (reset_state (plan_of file))) w
  file_sets w h = rw (← (plan_count file), ← sx_is, ← sy_is, ← zeros) (reset_sets (plan_of file) w h)

-- an accepted file's trailer is not refused
pub done_number : (file : List ℕ) (v : ℕ) → plan_answer file ≡ Done v → trailer_number file ≡ 0
unfolding plan_answer
done_number file v e =
    let parts = or_else_done (answer_by (trailer_number file) 0) (records_answer file (trailer_of file)) v e in
    answer_done (trailer_number file) 0 parts.0 parts.1
