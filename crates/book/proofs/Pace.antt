-- The entry bound: of a flow with I(T) < T each line enters within P + T − 1 cycles for itself and for each line ahead of it.
-- Rests on Head.
use mathlib.Core.Bool.{true, false, false≢true}
use mathlib.Core.List.{Memᴰ as Mem}
use mathlib.Core.Logic.{inl, inr}
use mathlib.Core.Path.{◌≡◌, sym, ap, ◌∙◌}
use Prim.Native.Nat.{ℕ, suc, ◌+◌, ◌*◌, ◌≤◌, ◌<◌}
use native.Mathlib.Nat.{add-zero, mul-le-mul_right}
use native.Mathlib.Omega.{arith}
use borrow.Author.Tests.{eq-eqb}
use lib.ListN.{length}
use Rattle.laws.specs.Count.{any}
use Rattle.laws.proofs.Cases.{test}
use Rattle.laws.proofs.Count.{mem_map, mem_snoc, any_mem}
use Rattle.flow.specs.Plan.{Plan, flow_at}
use Rattle.window.specs.Window.{interference}
use Rattle.book.specs.Line.{Line, is_waiting, entry_of}
use Rattle.book.specs.Book.{Book, waits_for, total_of, waiting_of, entered_of, start, offered}
use Rattle.book.specs.Cycle.{enters, stepped}
use Rattle.book.proofs.Moves.{turn, waited, timely as in_time}
use Rattle.book.proofs.Queue.{waits_past, entered_step, entered_offer, total_split}
use Rattle.book.proofs.Spans.{Lawful, lawful_step}
use Rattle.book.proofs.Head.{Head, head_due, head_fresh, head_offer, head_step}

-- the pace of flow f, H = P + T − 1
pub record Pace (p : Plan) (b : Book) (f T H : ℕ) : Type 0 where
  pub from : ℕ
  pub begun : from ≤ b.clock
  pub head : Head p b f from
  -- with the head's time each waiting line has H cycles for itself and for each line ahead of it
  pub due : (l : Line) → Mem l b.lines → l.flow ≡ f → is_waiting l.stage ≡ true
      → from + l.serial * H ≤ l.offer + (l.q + entered_of b f + 1) * H
  pub timely : (l : Line) → Mem l b.lines → l.flow ≡ f → is_waiting l.stage ≡ false → entry_of l.stage < l.offer + (l.q + 1) * H

module _ (p : Plan) (f : ℕ) (in_plan : f < length p.flows) (T H : ℕ) (sum : suc H ≡ (flow_at p f).period + T) (window : interference p f T < T) where
  pub pace_start : Lawful p (start p) → Pace p (start p) f T H
  pace_start law =
      record {
        from = 0;
        begun = omega arith;
        head = head_fresh p f in_plan (start p) law;
        due = λ l m. elim m [ ];
        timely = λ l m. elim m [ ];
      }

  module _ (b : Book) (law : Lawful p b) (pace : Pace p b f T H) where
    head_time : b.clock < pace.from + H
    head_time = head_due p b f T H pace.from sum window pace.head

    -- no waiting line's time is over
    pub waiting_due : (l : Line) → Mem l b.lines → l.flow ≡ f → is_waiting l.stage ≡ true → b.clock < l.offer + (l.q + 1) * H
    waiting_due l m own w =
        let ahead : entered_of b f < l.serial = rw own at (waits_past b law.queued l m w) in
        omega (arith, pace.due l m own w, head_time, mul-le-mul_right H ahead)

    pub pace_offer : (g : ℕ) → Pace p (offered b g) f T H
    pace_offer g =
        record {
          from = pace.from;
          begun = pace.begun;
          head = head_offer p b f pace.from g pace.head;
          due = λ l m own w. elim (mem_snoc b.lines m) [
            | inl old ↦ rw (entered_offer b g f) (pace.due l old own w)
            | inr new ↦ rw (new, entered_offer b g f) (new_due (rw new at own))
          ];
          timely = λ l m own w. elim (mem_snoc b.lines m) [ inl old ↦ pace.timely l old own w | inr new ↦ absurd (false≢true (sym (rw new at w))) ];
        }
      where
        -- the new line's serial is one more than the entered ones and the q that wait
        new_due : g ≡ f → pace.from + (total_of b g + 1) * H ≤ b.clock + (waiting_of b g + entered_of b f + 1) * H
        new_due own =
            let serial = ap (λ (n : ℕ). (n + 1) * H) (total_split b g) in
            let entered = ap (λ (k : ℕ). entered_of b k * H) own in
            omega (arith, pace.begun)

    -- the pace after a step, with a head since cycle `from`
    after : (from : ℕ) → from ≤ b.clock + 1 → Head p (stepped p b) f from
        → ((l : Line) → Mem l b.lines → l.flow ≡ f → is_waiting l.stage ≡ true
        → from + l.serial * H ≤ l.offer + (l.q + entered_of (stepped p b) f + 1) * H)
        → Pace p (stepped p b) f T H
    after from begun head due =
        record {
          from = from;
          begun = begun;
          head = head;
          due = λ l m own w.
              let k = mem_map b.lines m in
              rw k.2 (due k.0 k.1 (rw k.2 at own) (waited p b k.0 (turn p b k.0) (rw k.2 at w)));
          timely = λ l m own e.
              let k = mem_map b.lines m in
              let own' = rw k.2 at own in
              rw k.2
              (in_time p b k.0 _ (turn p b k.0) (pace.timely k.0 k.1 own') (waiting_due k.0 k.1 own') (rw k.2 at e));
        }

    -- an entry, or an empty queue, begins a new head; else the head stays
    pub pace_step : Pace p (stepped p b) f T H
    pace_step =
        let fresh = head_fresh p f in_plan (stepped p b) (lawful_step p b law) in
        elim (test (enters p b f)) [
          | inl go ↦
              after (b.clock + 1) (omega arith) fresh
              (λ l m own w. rw (entered_step b law.queued p f, go) (omega (arith, pace.due l m own w, head_time)))
          | inr out ↦ elim (test (any (waits_for f) b.lines)) [
            | inr none ↦
                after (b.clock + 1) (omega arith) fresh
                (λ l m own w. absurd (false≢true (sym none ∙ any_mem (waits_for f) b.lines m (rw (eq-eqb l.flow f own, w)))))
            | inl waits ↦
                after pace.from (omega (arith, pace.begun)) (head_step p f in_plan b law pace.from pace.begun waits out pace.head)
                (λ l m own w. rw (entered_step b law.queued p f, out, add-zero) (pace.due l m own w))
          ]
        ]
