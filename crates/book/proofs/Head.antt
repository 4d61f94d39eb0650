-- The head of a flow's queue: it gets a token within P − 1 cycles and, where I(T) < T, enters within T cycles of that.
-- Rests on Stretch and the regulator's wait.
use mathlib.Core.Bool.{true, false}
use mathlib.Core.Logic.{◌⊎◌, inl, inr}
use mathlib.Core.Path.{◌≡◌, ap}
use Prim.Native.Nat.{ℕ, suc, ◌+◌, ◌≤◌, ◌<◌}
use native.Mathlib.Decide.{ℕ_discrete, dec_le}
use native.Mathlib.Omega.{arith}
use lib.ListN.{length}
use Rattle.laws.specs.Count.{one, any}
use Rattle.flow.specs.Plan.{Plan, flow_at}
use Rattle.bucket.specs.Regulator.{after_cycle}
use Rattle.bucket.proofs.Regulator.{Regulated, wait, wait_most, wait_some, wait_less_lem}
use Rattle.window.specs.Window.{interference}
use Rattle.book.specs.Book.{Book, bucket_at, waits_for, entered_of, offered}
use Rattle.book.specs.Cycle.{enters, stepped}
use Rattle.book.proofs.Queue.{entered_step, entered_offer}
use Rattle.book.proofs.Spans.{span, bucket_step, Lawful}
use Rattle.book.proofs.Stretch.{Stretch, stretch_start, stretch_offer, tokens_step, stretch_step}

-- the head of flow f has been so since cycle `from`, without a token as yet
pub record Empty (p : Plan) (b : Book) (f from : ℕ) : Type 0 where
  pub none : (bucket_at b f).tokens ≡ 0
  pub soon : b.clock + wait (flow_at p f).period (bucket_at b f) < from + (flow_at p f).period

-- or with one since some cycle, in a stretch without an entry as yet
pub record Held (p : Plan) (b : Book) (f from : ℕ) : Type 0 where
  pub since : ℕ
  pub token : 1 ≤ (bucket_at b f).tokens
  pub after : from ≤ since
  pub soon : since < from + (flow_at p f).period
  pub stretch : Stretch p b f since (entered_of b f)

abbrev pub Head : Plan → Book → (f from : ℕ) → Type 0
Head p b f from = Empty p b f from ⊎ Held p b f from

-- its P + T − 1 cycles aren't over
pub head_due : (p : Plan) (b : Book) (f T H from : ℕ) → suc H ≡ (flow_at p f).period + T → interference p f T < T → Head p b f from
    → b.clock < from + H
head_due p b f T H from sum free (inl h) = omega (arith, h.soon)
head_due p b f T H from sum free (inr h) =
    elim (dec_le (h.since + T) b.clock) [
      | yes late ↦ absurd (omega (arith, h.stretch.due 1 T (omega arith) late))
      | no early ↦ omega (arith, h.soon)
    ]

pub head_offer : (p : Plan) (b : Book) (f from g : ℕ) → Head p b f from → Head p (offered b g) f from
head_offer p b f from g (inl h) = inl (record { none = h.none; soon = h.soon })
head_offer p b f from g (inr h) =
    inr (record {
      since = h.since;
      token = h.token;
      after = h.after;
      soon = h.soon;
      stretch = rw (entered_offer b g f) (stretch_offer p b f h.since (entered_of b f) g h.stretch);
    })

module _ (p : Plan) (f : ℕ) (in_plan : f < length p.flows) where
  abbrev P : ℕ
  P = (flow_at p f).period

  -- a token that is there now
  held_now : (b : Book) (from : ℕ) → from ≤ b.clock → b.clock < from + P → 1 ≤ (bucket_at b f).tokens → Held p b f from
  held_now b from after soon token =
      record { since = b.clock; token = token; after = after; soon = soon; stretch = stretch_start p b f }

  -- a head that begins now
  pub head_fresh : (b : Book) → Lawful p b → Head p b f b.clock
  head_fresh b law =
      elim (ℕ_discrete (bucket_at b f).tokens 0) [
        | yes e ↦ inl (record { none = e; soon = omega (arith, wait_most _ _ (bucket_at b f) b.clock (span b f) (law.regulated f in_plan)) })
        | no e ↦ inr (held_now b b.clock (omega arith) (omega (arith, (law.plan.flow_ok f in_plan).period_least)) (omega arith))
      ]

  module _ (b : Book) (law : Lawful p b) (from : ℕ) (begun : from ≤ b.clock) (waits : any (waits_for f) b.lines ≡ true) (out : enters p b f ≡ false) where
    old : Regulated (flow_at p f).burst P (bucket_at b f) b.clock (span b f)
    old = law.regulated f in_plan

    bucket : bucket_at (stepped p b) f ≡ after_cycle (flow_at p f).burst P false (bucket_at b f)
    bucket = rw (bucket_step p b f in_plan, out)

    -- a head that waits through a step and doesn't enter
    pub head_step : Head p b f from → Head p (stepped p b) f from
    head_step (inl h) =
        let less : wait P (bucket_at (stepped p b) f) + 1 ≡ wait P (bucket_at b f)
        = rw bucket (wait_less_lem _ _ (bucket_at b f) b.clock (span b f) old (law.plan.flow_ok f in_plan).burst_least h.none) in
        elim (ℕ_discrete (bucket_at (stepped p b) f).tokens 0) [
          | yes e ↦ inl (record { none = e; soon = omega (arith, h.soon) })
          | no e ↦
              let some = wait_some _ _ (bucket_at b f) b.clock (span b f) old h.none in
              inr (held_now (stepped p b) from (omega arith) (omega (arith, h.soon)) (omega arith))
        ]
    head_step (inr h) =
        let same : entered_of (stepped p b) f ≡ entered_of b f = omega (arith, entered_step b law.queued p f, ap one out) in
        inr (record {
          since = h.since;
          token = omega (arith, tokens_step p b law f in_plan, same, h.token);
          after = h.after;
          soon = h.soon;
          stretch = rw same (stretch_step p b law f in_plan h.since (entered_of b f) h.stretch waits h.token);
        })
