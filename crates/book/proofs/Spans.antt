-- How often a flow entered in a span of cycles, read off the lines; every flow's bucket is regulated with it, from the start and through
-- every offer and step. Rests on Queue and Traced.
use mathlib.Core.Bool.{Bool, true, false, not, ◌&&◌, and-false}
use mathlib.Core.List.{[], ◌∷◌, Memᴰ as Mem}
use mathlib.Core.Path.{◌≡◌, refl, ap, ◌∙◌}
use Prim.Native.Nat.{ℕ, ◌+◌, ◌≤◌, ◌<◌}
use native.Mathlib.Decide.{dec_le}
use native.Mathlib.Omega.{arith}
use borrow.Author.Tests.{lt-ltb, le-ltb, ltb-true, le-leb, lt-leb}
use lib.Dec.{ltb, leb}
use lib.ListN.{length}
use Rattle.laws.specs.Bounded.{tabulate}
use Rattle.laws.specs.Count.{one, count}
use Rattle.laws.proofs.Bounded.{get_d_tabulate}
use Rattle.laws.proofs.Count.{count_append, count_map, count_same, count_sum, count_none}
use Rattle.flow.specs.Plan.{Plan, flow_at}
use Rattle.flow.specs.Ranges.{PlanOk}
use Rattle.bucket.specs.Regulator.{full_bucket, after_cycle}
use Rattle.bucket.proofs.Regulator.{Regulated, reset, cycle, recount}
use Rattle.router.proofs.Entrant.{entering_ready}
use Rattle.book.specs.Line.{Stage, Line, is_waiting, entry_of}
use Rattle.book.specs.Book.{Book, bucket_at, of_flow, start, offered, offered_line}
use Rattle.book.specs.Cycle.{view, enters, move, stepped}
use Rattle.book.proofs.Moves.{goes, Turn, keeps, stays, comes, turn}
use Rattle.book.proofs.Queue.{Queued, queued_step, queued_offer, goes_count}
use Rattle.book.proofs.Traced.{Traced, traced_step, traced_offer, entry_before}

-- an entry in the cycles from a to t − 1
abbrev pub entered_in : (a t : ℕ) → Stage → Bool
entered_in a t s = not (is_waiting s) && (leb a (entry_of s) && ltb (entry_of s) t)

-- the flow's entries in the cycles from a to t − 1
abbrev pub span : Book → ℕ → (a t : ℕ) → ℕ
span b f a t = count (λ l. of_flow f l && entered_in a t l.stage) b.lines

none_within : (a n : ℕ) → leb a n && ltb n a ≡ false
none_within a n = elim (dec_le a n) [ yes l ↦ rw (le-ltb n a l) (and-false (leb a n)) | no l ↦ rw (lt-leb a n (omega arith)) ]

-- every flow's bucket is what its entries left of it
abbrev pub AllRegulated : Plan → Book → Type 0
AllRegulated p b = (f : ℕ) → f < length p.flows → Regulated (flow_at p f).burst (flow_at p f).period (bucket_at b f) b.clock (span b f)

-- no cycles, no entries
pub span_none : (b : Book) (f a : ℕ) → span b f a a ≡ 0
span_none b f a =
    count_none (λ l. of_flow f l && entered_in a a l.stage) b.lines
    (λ l m. rw (none_within a (entry_of l.stage), and-false (not (is_waiting l.stage))) (and-false (of_flow f l)))

-- an offer is no entry
pub span_offer : (b : Book) (f g a t : ℕ) → span (offered b f) g a t ≡ span b g a t
span_offer b f g a t =
    count_append (λ l. of_flow g l && entered_in a t l.stage) b.lines (offered_line b f ∷ [])
    ∙ rw (and-false (of_flow g (offered_line b f))) (omega arith)

-- rule 4
pub bucket_step : (p : Plan) (b : Book) (f : ℕ) → f < length p.flows
    → bucket_at (stepped p b) f ≡ after_cycle (flow_at p f).burst (flow_at p f).period (enters p b f) (bucket_at b f)
bucket_step p b f l =
    get_d_tabulate (length p.flows) (λ g. after_cycle (flow_at p g).burst (flow_at p g).period (enters p b g) (bucket_at b g)) f (full_bucket 0) l

-- a book of an accepted plan, with its paths, queues and buckets
pub record Lawful (p : Plan) (b : Book) : Type 0 where
  pub plan : PlanOk p
  pub traced : Traced p b
  pub queued : Queued b
  pub regulated : AllRegulated p b

pub lawful_start : (p : Plan) → PlanOk p → Lawful p (start p)
unfolding tabulate
lawful_start p ok =
    record {
      plan = ok;
      traced = record { known = λ l m. elim m [ ]; sound = λ l m. elim m [ ] };
      queued = record { numbered = λ f. refl; entered_first = λ l m. elim m [ ] };
      regulated = full;
    }
  where
    full : AllRegulated p (start p)
    full f l =
        let k = ok.flow_ok f l in
        rw (get_d_tabulate (length p.flows) (λ g. full_bucket (flow_at p g).burst) f (full_bucket 0) l)
        (reset (flow_at p f).burst (flow_at p f).period k.burst_least k.period_least (span (start p) f) refl)

module _ (p : Plan) (b : Book) (law : Lawful p b) where
  pub lawful_offer : (f : ℕ) → f < length p.flows → Lawful p (offered b f)
  lawful_offer f in_plan =
      record {
        plan = law.plan;
        traced = traced_offer p law.plan b law.traced f in_plan;
        queued = queued_offer b law.queued f;
        regulated = λ g l. recount _ _ (bucket_at b g) b.clock (span b g) (law.regulated g l) (span (offered b f) g) (span_offer b f g);
      }

  -- the entries before the cycle of a step
  span_old : (f a t : ℕ) → t ≤ b.clock → span (stepped p b) f a t ≡ span b f a t
  span_old f a t l =
      count_map (λ k. of_flow f k && entered_in a t k.stage) (move p b) b.lines
      ∙ count_same (λ k. of_flow f k && entered_in a t (move p b k).stage) (λ k. of_flow f k && entered_in a t k.stage) b.lines
      (λ k m. ap (λ (e : Bool). of_flow f k && e) (old k (turn p b k)))
    where
      old : (k : Line) → Turn p b k → entered_in a t (move p b k).stage ≡ entered_in a t k.stage
      old k (keeps w w' e g) = rw (w, w', e)
      old k (stays w w' g) = rw (w, w')
      old k (comes w w' e g) = rw (w, w', e, le-ltb b.clock t l) (and-false (leb a b.clock))

  -- and with that cycle
  pub span_new : (f a : ℕ) → a ≤ b.clock → span (stepped p b) f a (b.clock + 1) ≡ span b f a b.clock + one (enters p b f)
  span_new f a l =
      count_map (λ k. of_flow f k && entered_in a (b.clock + 1) k.stage) (move p b) b.lines
      ∙ count_sum (λ k. of_flow f k && entered_in a (b.clock + 1) (move p b k).stage) (λ k. of_flow f k && entered_in a b.clock k.stage)
      (λ k. of_flow f k && goes p b k) b.lines (λ k m. new (of_flow f k) k m (turn p b k))
      ∙ ap (λ (n : ℕ). span b f a b.clock + n) (goes_count b law.queued p f)
    where
      new : (s : Bool) (k : Line) → Mem k b.lines → Turn p b k
          → one (s && entered_in a (b.clock + 1) (move p b k).stage) ≡ one (s && entered_in a b.clock k.stage) + one (s && goes p b k)
      new false k m t = refl
      new true k m (keeps w w' e g) =
          let before = entry_before p law.plan b law.traced k m w in
          rw (g, w, w', e, lt-ltb (entry_of k.stage) (b.clock + 1) (omega arith), lt-ltb (entry_of k.stage) b.clock before) (omega arith)
      new true k m (stays w w' g) = rw (g, w, w')
      new true k m (comes w w' e g) = rw (g, w, w', e, le-leb a b.clock l, lt-ltb b.clock (b.clock + 1) (omega arith))

  token : (f : ℕ) → enters p b f ≡ true → 1 ≤ (bucket_at b f).tokens
  token f e = ltb-true 0 (bucket_at b f).tokens (entering_ready p (view p b) f e).token

  pub lawful_step : Lawful p (stepped p b)
  lawful_step =
      record {
        plan = law.plan;
        traced = traced_step p law.plan b law.traced;
        queued = queued_step b law.queued p;
        regulated = λ f l.
            rw (bucket_step p b f l)
            (cycle _ _ (bucket_at b f) b.clock (span b f) (law.regulated f l) (enters p b f) (token f) (span (stepped p b) f)
            (span_old f) (span_new f) (span_none (stepped p b) f (b.clock + 1)));
      }
