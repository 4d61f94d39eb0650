-- What passes a flow's source in a window is at most I(t). A window through which a flow waits with a token is no longer than what
-- passed and the flow's own entries. Rests on Charge, Spans and the windows' definitions.
use mathlib.Core.Bool.{Bool, true, ◌&&◌, false≢true}
use mathlib.Core.List.{[], ◌∷◌}
use mathlib.Core.Logic.{inl, inr}
use mathlib.Core.Path.{◌≡◌, refl, ap, ◌∙◌}
use Prim.Native.Nat.{ℕ, ◌+◌, ◌-◌, ◌≤◌, ◌<◌}
use native.Mathlib.Nat.{le_trans}
use native.Mathlib.Decide.{ℕ_discrete, dec_lt}
use native.Mathlib.Omega.{arith}
use borrow.Author.Tests.{lt-ltb, le-leb, eq-eqb, ne_eqb, eqb-true}
use lib.Dec.{eqb}
use lib.ListN.{length}
use Rattle.laws.specs.Count.{one, count, any}
use Rattle.laws.proofs.Cases.{test, and_true}
use Rattle.laws.proofs.Count.{count_none, count_mono, count_split, count_append}
use Rattle.laws.proofs.Sum.{sum_mono}
use Rattle.flow.specs.Plan.{Plan, flow_at}
use Rattle.bucket.proofs.Regulator.{Regulated, enters_at_most}
use Rattle.window.specs.Window.{share, share_of, interference}
use Rattle.book.specs.Line.{Line, entry_of}
use Rattle.book.specs.Book.{Book, bucket_at, of_flow, waits_for, offered, offered_line}
use Rattle.book.specs.Cycle.{enters, stepped}
use Rattle.book.proofs.Spans.{span, entered_in, Lawful, span_offer, span_new}
use Rattle.book.proofs.Meetings.{Meeting, never, meets, meeting, spread_of, meeting_conflict, passed_parts}
use Rattle.book.proofs.Charge.{passed, HasPassed, has_passed, passed_more, charge}

module _ (p : Plan) (b : Book) (f s : ℕ) where
  -- the lines of flow g that passed f
  abbrev passed_of : ℕ → Line → Bool
  passed_of g l = eqb l.flow g && passed p f s b.clock l

  -- what such a line is
  record PassedOf (g : ℕ) (l : Line) : Type 0 where
    own : l.flow ≡ g
    has : HasPassed p f s b.clock l

  passed_of_lem : (g : ℕ) (l : Line) → passed_of g l ≡ true → PassedOf g l
  passed_of_lem g l t =
      let a = and_true _ _ t in
      record { own = eqb-true l.flow g a.0; has = has_passed p f s b.clock l a.1 }

  -- none of them, where that can't be
  none_passed : (g : ℕ) → ((l : Line) → PassedOf g l → ⊥) → count (passed_of g) b.lines ≡ 0
  none_passed g not_so =
      count_none (passed_of g) b.lines (λ l m. elim (test (passed_of g l)) [ inl t ↦ absurd (not_so l (passed_of_lem g l t)) | inr t ↦ t ])

  -- they entered in a window as long as the spread allows
  of_meeting : s < b.clock → (g : ℕ) → Regulated (flow_at p g).burst (flow_at p g).period (bucket_at b g) b.clock (span b g)
      → (m : Meeting) → meeting p (flow_at p f) (flow_at p g) ≡ m
      → count (passed_of g) b.lines ≤ share (flow_at p g) (b.clock - s) (spread_of m)
  unfolding share
  of_meeting late g held never e =
      omega (arith, none_passed g (λ l h. false≢true (rw (h.own, e) at h.has.by_then)))
  of_meeting late g held (meets K J point) e =
      elim (dec_lt from to) [
        | no l ↦ omega (arith, none_passed g (λ k h. let w = within k h in omega arith))
        | yes l ↦
            le_trans
            (count_mono (passed_of g) (λ k. of_flow g k && entered_in from to k.stage) b.lines
            (λ k m t. counted k (passed_of_lem g k t)))
            (enters_at_most _ _ (bucket_at b g) b.clock (span b g) held from to (b.clock - s - 1 + J) l (omega arith) (omega arith))
      ]
    where
      from : ℕ
      from = s - (K + J)

      to : ℕ
      to = b.clock - K

      within : (k : Line) → PassedOf g k → (from ≤ entry_of k.stage) × (entry_of k.stage < to)
      within k h = let w = passed_parts K J point s b.clock (entry_of k.stage) _ (rw (h.own, e) at h.has.by_then) in omega arith

      counted : (k : Line) → PassedOf g k → of_flow g k && entered_in from to k.stage ≡ true
      counted k h =
          let w = within k h in
          rw (eq-eqb k.flow g h.own, h.has.entered, le-leb from (entry_of k.stage) w.0, lt-ltb (entry_of k.stage) to w.1)

  -- no more than flow g's share of I(t)
  of_flow_lem : s < b.clock → (g : ℕ) → Regulated (flow_at p g).burst (flow_at p g).period (bucket_at b g) b.clock (span b g)
      → count (passed_of g) b.lines ≤ share_of p f (b.clock - s) g
  unfolding share_of
  of_flow_lem late g held =
      elim (ℕ_discrete g f) [
        | yes own ↦ omega (arith, none_passed g (λ l h. h.has.other (h.own ∙ own)))
        | no other ↦
            rw (ne_eqb g f other, ← (meeting_conflict p (flow_at p f) (flow_at p g)))
            (of_meeting late g held (meeting p (flow_at p f) (flow_at p g)) refl)
      ]

  -- what passed f from cycle s on is at most I(clock − s)
  pub passes : Lawful p b → s < b.clock → count (passed p f s b.clock) b.lines ≤ interference p f (b.clock - s)
  unfolding interference
  passes law late =
      rw (count_split (passed p f s b.clock) (λ l. l.flow) (length p.flows) b.lines (λ l m t. law.traced.known l m))
      (sum_mono _ (share_of p f (b.clock - s)) (length p.flows) (λ g l. of_flow_lem late g (law.regulated g l)))

-- each cycle from s to the clock was taken by a packet that passed f or by an entry of f, as it is while f waits with a token
pub record Busy (p : Plan) (b : Book) (f s : ℕ) : Type 0 where
  pub now : s ≤ b.clock
  pub taken : b.clock ≤ s + (count (passed p f s b.clock) b.lines + span b f s b.clock)

-- a window of no cycles
pub busy_start : (p : Plan) (b : Book) (f : ℕ) → Busy p b f b.clock
busy_start p b f = record { now = omega arith; taken = omega arith }

pub busy_offer : (p : Plan) (b : Book) (f g s : ℕ) → Busy p b f s → Busy p (offered b g) f s
busy_offer p b f g s h =
    record {
      now = h.now;
      taken = omega (arith, h.taken, count_append (passed p f s b.clock) b.lines (offered_line b g ∷ []), span_offer b g f s b.clock);
    }

module _ (p : Plan) (b : Book) (law : Lawful p b) (f s : ℕ) (busy : Busy p b f s) where
  -- a cycle more, with f waiting and with a token
  pub busy_step : f < length p.flows → any (waits_for f) b.lines ≡ true → 1 ≤ (bucket_at b f).tokens → Busy p (stepped p b) f s
  busy_step in_plan w token =
      let own = span_new p b law f s busy.now in
      record {
        now = omega (arith, busy.now);
        taken = elim (test (enters p b f)) [
          | inr out ↦ omega (arith, busy.taken, charge p b law f s in_plan busy.now w token out, ap one out)
          | inl go ↦ omega (arith, busy.taken, passed_more p b law f s, ap one go)
        ];
      }

  -- the window is no longer than I of its length and f's own entries
  pub busy_most : s < b.clock → b.clock - s ≤ interference p f (b.clock - s) + span b f s b.clock
  busy_most late = omega (arith, busy.taken, passes p b f s law late)
