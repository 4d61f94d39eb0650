-- A stretch: cycles in which a flow waits with a token. For each t with I(t) + j ≤ t, j of its lines have entered once t cycles of the
-- stretch are stepped. Rests on Interference and the bucket's tokens.
use mathlib.Core.Bool.{true}
use mathlib.Core.Path.{◌≡◌, ap}
use Prim.Native.Nat.{ℕ, ◌+◌, ◌-◌, ◌≤◌, ◌<◌}
use native.Mathlib.Decide.{dec_le}
use native.Mathlib.Omega.{arith}
use lib.ListN.{length}
use Rattle.laws.specs.Count.{any}
use Rattle.flow.specs.Plan.{Plan}
use Rattle.bucket.proofs.Regulator.{tokens_cycle}
use Rattle.window.specs.Window.{interference}
use Rattle.book.specs.Book.{Book, bucket_at, waits_for, entered_of, offered}
use Rattle.book.specs.Cycle.{enters, stepped}
use Rattle.book.proofs.Queue.{entered_step, entered_offer}
use Rattle.book.proofs.Spans.{span, span_none, span_offer, span_new, bucket_step, Lawful, lawful_step}
use Rattle.book.proofs.Interference.{Busy, busy_start, busy_offer, busy_step, busy_most}

-- flow f has waited with a token in each cycle from s on, and n of its lines had entered before
pub record Stretch (p : Plan) (b : Book) (f s n : ℕ) : Type 0 where
  pub busy : Busy p b f s
  pub entered : entered_of b f ≡ n + span b f s b.clock
  pub due : (j t : ℕ) → interference p f t + j ≤ t → s + t ≤ b.clock → n + j ≤ entered_of b f

pub stretch_start : (p : Plan) (b : Book) (f : ℕ) → Stretch p b f b.clock (entered_of b f)
stretch_start p b f =
    record { busy = busy_start p b f; entered = omega (arith, span_none b f b.clock); due = λ j t free late. omega arith }

pub stretch_offer : (p : Plan) (b : Book) (f s n g : ℕ) → Stretch p b f s n → Stretch p (offered b g) f s n
stretch_offer p b f s n g h =
    record {
      busy = busy_offer p b f g s h.busy;
      entered = rw (entered_offer b g f, span_offer b g f s b.clock) h.entered;
      due = λ j t free late. rw (entered_offer b g f) (h.due j t free late);
    }

module _ (p : Plan) (b : Book) (law : Lawful p b) (f : ℕ) (in_plan : f < length p.flows) where
  -- only an entry takes a token
  pub tokens_step : (bucket_at b f).tokens + entered_of b f ≤ (bucket_at (stepped p b) f).tokens + entered_of (stepped p b) f
  tokens_step =
      rw (bucket_step p b f in_plan)
      (omega (arith, entered_step b law.queued p f, tokens_cycle _ _ (bucket_at b f) b.clock (span b f) (law.regulated f in_plan) (enters p b f)))

  -- a cycle more, with f waiting and with a token
  pub stretch_step : (s n : ℕ) → Stretch p b f s n → any (waits_for f) b.lines ≡ true → 1 ≤ (bucket_at b f).tokens → Stretch p (stepped p b) f s n
  stretch_step s n h waits token =
      record { busy = busy; entered = entered; due = due }
    where
      busy : Busy p (stepped p b) f s
      busy = busy_step p b law f s h.busy in_plan waits token

      entered : entered_of (stepped p b) f ≡ n + span (stepped p b) f s (b.clock + 1)
      entered = omega (arith, entered_step b law.queued p f, h.entered, span_new p b law f s h.busy.now)

      due : (j t : ℕ) → interference p f t + j ≤ t → s + t ≤ b.clock + 1 → n + j ≤ entered_of (stepped p b) f
      due j t free late =
          elim (dec_le (s + t) b.clock) [
            | yes before ↦ omega (arith, h.due j t free before, entered_step b law.queued p f)
            | no now ↦
                let all : b.clock + 1 - s ≡ t = omega arith in
                let most = busy_most p (stepped p b) (lawful_step p b law) f s busy (omega (arith, h.busy.now)) in
                omega (arith, ap (interference p f) all, entered)
          ]
