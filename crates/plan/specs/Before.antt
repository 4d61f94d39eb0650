-- Plan files written before the last byte of a record was the top byte of P: it was 0, and P had two bytes (02, U5).
use Rattle.std.specs.Prelude.{true, List, ◌≡◌, ℕ, ◌+◌, ◌≤◌, ◌<◌, get_or}
use Rattle.flow.specs.Plan.{flow_at, on_torus}
use Rattle.file.specs.Bytes.{little_endian2}
use Rattle.file.specs.Layout.{trailer_of, flow_from, record_at, plan_of}
use Rattle.refusal.specs.Answer.{Done}
use Rattle.plan.specs.Refusals.{trailer_number, plan_answer}

-- a record that 01 accepts: coordinates on the torus, P and σ not zero, last byte zero
pub record RecordBefore (file : List ℕ) (sx sy at : ℕ) : Type 0 where
  pub is_on_torus : on_torus sx sy (flow_from file at) ≡ true
  pub period_some : 1 ≤ little_endian2 file (at + 4)
  pub burst_some : 1 ≤ get_or file (at + 6) 0
  pub last_zero : get_or file (at + 7) 0 ≡ 0

-- files written before read with the same period
abbrev pub EveryFileBefore : Type 0
EveryFileBefore =
    (file : List ℕ)
    → let t = trailer_of file in
    trailer_number file ≡ 0
    → ((f : ℕ) → f < t.count → RecordBefore file t.sx t.sy (record_at t f))
    → (plan_answer file ≡ Done 0) × ((f : ℕ) → f < t.count → (flow_at (plan_of file) f).period ≡ little_endian2 file (record_at t f + 4))
