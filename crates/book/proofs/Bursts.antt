-- Bursts: k lines that wait with a token for each have entered once t cycles are stepped, for each t with I(t) + k ≤ t; and what offers
-- alone leave as it was. Rests on Stretch and Kept.
use mathlib.Core.Bool.{true, false, false≢true}
use mathlib.Core.List.{List, Memᴰ as Mem}
use mathlib.Core.Logic.{◌⊎◌, inl, inr}
use mathlib.Core.Path.{◌≡◌, refl, sym, ◌∙◌}
use Prim.Native.Nat.{ℕ, ◌+◌, ◌-◌, ◌≤◌, ◌<◌}
use native.Mathlib.Decide.{dec_le}
use native.Mathlib.Omega.{arith}
use lib.ListN.{length}
use Rattle.laws.proofs.Count.{mem_map, mem_snoc, count_any}
use Rattle.flow.specs.Plan.{Plan}
use Rattle.window.specs.Window.{interference}
use Rattle.book.specs.Line.{Line, is_waiting, entry_of}
use Rattle.book.specs.Book.{Book, bucket_at, waits_for, total_of, waiting_of, entered_of, offered}
use Rattle.book.specs.Cycle.{stepped}
use Rattle.book.specs.Feed.{Call, run_from}
use Rattle.book.specs.Promises.{EntersBy}
use Rattle.book.proofs.Moves.{turn, timely as in_time, by_stage}
use Rattle.book.proofs.Queue.{waits_past, entered_within, entered_step, entered_offer, total_split, total_offer, total_step}
use Rattle.book.proofs.Spans.{Lawful}
use Rattle.book.proofs.Stretch.{Stretch, stretch_start, stretch_offer, tokens_step, stretch_step}
use Rattle.book.proofs.Kept.{Kept, kept_from, along}

-- of flow f, n lines had entered at cycle s and k more waited, with a token for each: they have entered, or the stretch since s goes on
record Burst (p : Plan) (b : Book) (f s n k t : ℕ) : Type 0 where
  all : n + k ≤ total_of b f
  phase : (n + k ≤ entered_of b f) ⊎ (Stretch p b f s n × (n + k ≤ (bucket_at b f).tokens + entered_of b f))
  timely : (l : Line) → Mem l b.lines → l.flow ≡ f → n < l.serial → l.serial ≤ n + k → is_waiting l.stage ≡ false → entry_of l.stage < s + t

module _ (p : Plan) (f : ℕ) (in_plan : f < length p.flows) (s n k t : ℕ) (free : interference p f t + k ≤ t) where
  -- where not all have entered, its time isn't over
  burst_due : (b : Book) → Burst p b f s n k t → entered_of b f < n + k → b.clock < s + t
  burst_due b h less =
      elim (dec_le (s + t) b.clock) [
        | no early ↦ omega arith
        | yes late ↦ elim h.phase [ inl over ↦ absurd (omega arith) | inr goes_on ↦ absurd (omega (arith, goes_on.0.due k t free late)) ]
      ]

  burst_waits : (b : Book) → Lawful p b → Burst p b f s n k t → (l : Line) → Mem l b.lines → l.flow ≡ f → l.serial ≤ n + k
      → is_waiting l.stage ≡ true → b.clock < s + t
  burst_waits b law h l m own first w =
      let past : entered_of b f < l.serial = rw own at (waits_past b law.queued l m w) in
      burst_due b h (omega arith)

  burst_offer : (b : Book) → Kept p b → (g : ℕ) → Burst p b f s n k t → Burst p (offered b g) f s n k t
  burst_offer b kept g h =
      record {
        all = omega (arith, h.all, total_offer b g f);
        phase = elim h.phase [
          | inl over ↦ inl (rw (entered_offer b g f) over)
          | inr goes_on ↦ inr (stretch_offer p b f s n g goes_on.0, rw (entered_offer b g f) goes_on.1)
        ];
        timely = λ l m own past first w. elim (mem_snoc b.lines m) [
          | inl old ↦ h.timely l old own past first w
          | inr new ↦ absurd (false≢true (sym (rw new at w)))
        ];
      }

  burst_step : (b : Book) → Kept p b → Burst p b f s n k t → Burst p (stepped p b) f s n k t
  burst_step b kept h =
      record {
        all = rw (total_step p b f) h.all;
        phase = elim (dec_le (n + k) (entered_of b f)) [
          | yes over ↦ inl (omega (arith, entered_step b law.queued p f))
          | no less ↦ elim h.phase [
            | inl over ↦ absurd (omega arith)
            | inr goes_on ↦
                let waits = count_any (waits_for f) b.lines (omega (arith, h.all, total_split b f)) in
                inr (
                  stretch_step p b law f in_plan s n goes_on.0 waits (omega (arith, goes_on.1)),
                  omega (arith, goes_on.1, tokens_step p b law f in_plan),
                )
          ]
        ];
        timely = λ l m own past first w.
            let o = mem_map b.lines m in
            let own' = rw o.2 at own in
            let first' = rw o.2 at first in
            rw o.2
            (in_time p b o.0 (s + t) (turn p b o.0) (h.timely o.0 o.1 own' (rw o.2 at past) first')
            (burst_waits b law h o.0 o.1 own' first') (rw o.2 at w));
      }
    where
      law : Lawful p b
      law = kept.lawful

-- a burst begins wherever k lines wait with a token for each
burst_start : (p : Plan) (b : Book) → Lawful p b → (f k t : ℕ) → k ≤ waiting_of b f → k ≤ (bucket_at b f).tokens
    → Burst p b f b.clock (entered_of b f) k t
burst_start p b law f k t waits tokens =
    record {
      all = omega (arith, total_split b f);
      phase = inr (stretch_start p b f, omega arith);
      timely = λ l m own past first w.
          let within : l.serial ≤ entered_of b f = rw own at (entered_within b law.queued l m w) in
          absurd (omega arith);
    }

-- what k lines that wait in book b with a token for each are promised of a later book
pub record Bursts (b later : Book) (f k t : ℕ) : Type 0 where
  -- all have entered once t cycles are stepped
  pub entered : b.clock + t ≤ later.clock → entered_of b f + k ≤ entered_of later f
  -- each has entered in these cycles, or waits and they aren't over
  pub each : (l : Line) → Mem l later.lines → l.flow ≡ f → entered_of b f < l.serial → l.serial ≤ entered_of b f + k
      → EntersBy (b.clock + t - 1) later.clock l.stage

module _ (p : Plan) (b : Book) (kept : Kept p b) (f : ℕ) (in_plan : f < length p.flows) where
  pub bursts : (k t : ℕ) → interference p f t + k ≤ t → k ≤ waiting_of b f → k ≤ (bucket_at b f).tokens
      → (cs : List Call) → Bursts b (run_from p b cs).book f k t
  bursts k t free waits tokens cs =
      record {
        entered = λ late. elim (dec_le (entered_of b f + k) (entered_of later f)) [
          | yes all ↦ all
          | no less ↦ absurd (omega (arith, burst_due p f in_plan _ _ k t free later held (omega arith)))
        ];
        each = λ l m own past first. by_stage _ _ l.stage
            (λ w. omega (arith, burst_waits p f in_plan _ _ k t free later later_kept.lawful held l m own first w))
            (λ w. omega (arith, held.timely l m own past first w));
      }
    where
      later : Book
      later = (run_from p b cs).book

      later_kept : Kept p later
      later_kept = kept_from p cs b kept

      held : Burst p later f b.clock (entered_of b f) k t
      held =
          along p (λ (now : Book). Burst p now f b.clock (entered_of b f) k t) (burst_offer p f in_plan _ _ k t free)
          (burst_step p f in_plan _ _ k t free) cs b kept (burst_start p b kept.lawful f k t waits tokens)

-- where no step has run, buckets and entries are as they were
pub record Unstepped (b now : Book) (f : ℕ) : Type 0 where
  pub clock : now.clock ≡ b.clock
  pub bucket : bucket_at now f ≡ bucket_at b f
  pub entered : entered_of now f ≡ entered_of b f

pub unstepped : (p : Plan) (b : Book) → Kept p b → (f : ℕ) (cs : List Call) → (run_from p b cs).book.clock ≡ b.clock
    → Unstepped b (run_from p b cs).book f
unstepped p b kept f cs same =
    elim (along p (λ (now : Book). (b.clock < now.clock) ⊎ Unstepped b now f)
    (λ now k g h. elim h [
      | inl later ↦ inl later
      | inr still ↦ inr (record { clock = still.clock; bucket = still.bucket; entered = entered_offer now g f ∙ still.entered })
    ])
    (λ now k h. elim h [ inl later ↦ inl (omega arith) | inr still ↦ inl (omega (arith, still.clock)) ])
    cs b kept (inr (record { clock = refl; bucket = refl; entered = refl }))) [
      | inl later ↦ absurd (omega arith)
      | inr still ↦ still
    ]
