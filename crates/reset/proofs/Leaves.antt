-- What an accepted reset leaves: words that form a state, with the file's plan. Rests on the laws of a state's words.
use mathlib.Core.Bool.{true}
use mathlib.Core.List.{List}
use mathlib.Core.Path.{◌≡◌, ap}
use Prim.Native.Nat.{ℕ, ◌≤◌, ◌<◌}
use native.Mathlib.Decide.{dec_le}
use native.Mathlib.Omega.{arith}
use borrow.Author.Tests.{lt-ltb, le-ltb}
use lib.ListN.{length}
use Rattle.laws.proofs.Stands.{Stands, stands_first}
use Rattle.flow.specs.Plan.{Plan, flow_at}
use Rattle.flow.specs.Ranges.{PlanOk}
use Rattle.bucket.proofs.Regulator.{full_fits}
use Rattle.refusal.specs.Answer.{Done}
use Rattle.file.specs.Layout.{plan_of}
use Rattle.plan.specs.Refusals.{plan_answer}
use Rattle.plan.proofs.Refusals.{refused_done}
use Rattle.plan.proofs.Ranges.{Bytes, plan_ok}
use Rattle.place.specs.Place.{W, N}
use Rattle.state.specs.State.{fresh_tally, reset_state}
use Rattle.state.specs.Words.{state_words}
use Rattle.state.specs.Read.{plan_in}
use Rattle.state.specs.Forms.{tally_fits, state_number}
use Rattle.state.specs.Outcome.{unless_refused, over}
use Rattle.state.specs.Layout.{plan_size}
use Rattle.state.specs.Reset.{reset_on, fresh_on}
use Rattle.state.proofs.Over.{unless_refused_done}
use Rattle.state.proofs.Read.{plan_read}
use Rattle.state.proofs.Formed.{StateOk, register_ok, words_form}
use Rattle.reset.proofs.Fresh.{fresh_tally_lem, empty_cell_lem}

module _ (p : Plan) (ok : PlanOk p) where
  fresh_fits : (f : ℕ) → f < length p.flows → tally_fits 0 (flow_at p f) (fresh_tally (flow_at p f).burst) ≡ true
  unfolding tally_fits
  fresh_fits f h = rw (full_fits (flow_at p f).burst (flow_at p f).period (ok.flow_ok f h).period_least)

  -- the numbers of a reset state fit
  pub reset_ok : StateOk (reset_state p)
  reset_ok =
      record {
        plan_ok = ok;
        tally_ok = λ f h. rw (fresh_tally_lem p f h) (fresh_fits f h);
        west_ok = λ x y h k. ap (λ c. register_ok (reset_state p) (W x y) c.west) (empty_cell_lem p x y h k);
        north_ok = λ x y h k. ap (λ c. register_ok (reset_state p) (N x y) c.north) (empty_cell_lem p x y h k);
      }

-- an accepted reset: the file was accepted, and the memory was long enough
pub record ResetDone (file memory : List ℕ) : Type 0 where
  pub value : ℕ
  pub file_done : plan_answer file ≡ Done value
  pub long : plan_size (plan_of file) ≤ length memory

done_long : (p : Plan) (memory : List ℕ) → (fresh_on p memory).answer ≡ Done 0 → plan_size p ≤ length memory
done_long p memory e =
    elim (dec_le (plan_size p) (length memory)) [
      | yes h ↦ h
      | no h ↦ absurd (refused_done 8 0 0 (rw (lt-ltb (length memory) (plan_size p) (omega arith)) at e))
    ]

pub reset_done : (file memory : List ℕ) → (reset_on file memory).answer ≡ Done 0 → ResetDone file memory
unfolding reset_on
reset_done file memory e =
    let parts = unless_refused_done (plan_answer file) memory (fresh_on (plan_of file) memory) 0 e in
    record { value = parts.0; file_done = parts.1; long = done_long (plan_of file) memory parts.2 }

module _ (file memory : List ℕ) (bytes : Bytes file) (e : (reset_on file memory).answer ≡ Done 0) where
  -- the reset state's words, and the rest as lent
  pub leaves : (reset_on file memory).memory ≡ over (state_words (reset_state (plan_of file))) memory
  unfolding reset_on unless_refused
  leaves =
      let a = reset_done file memory e in
      rw (a.file_done, le-ltb (length memory) (plan_size (plan_of file)) a.long)

  stands : Stands 0 (reset_on file memory).memory 0 (state_words (reset_state (plan_of file)))
  stands = rw leaves (stands_first 0 (state_words (reset_state (plan_of file))) _)

  -- its words form a state
  pub reset_forms : state_number (reset_on file memory).memory ≡ 0
  reset_forms =
      let a = reset_done file memory e in
      words_form (reset_state (plan_of file)) (reset_ok (plan_of file) (plan_ok file a.value a.file_done bytes)) _ stands

  -- and have the file's plan
  pub reset_plan : plan_in (reset_on file memory).memory ≡ plan_of file
  reset_plan = plan_read (reset_state (plan_of file)) _ stands
