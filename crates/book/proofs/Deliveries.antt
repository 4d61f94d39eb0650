-- What a step delivers is what left in it, whatever is asked of a delivery; so after every list of calls what was delivered is what has left.
-- Rests on Traced.
use mathlib.Core.Bool.{Bool, true, false, ◌&&◌, and-false}
use mathlib.Core.List.{List, map, Memᴰ as Mem}
use mathlib.Core.Logic.{inl, inr}
use mathlib.Core.Path.{◌≡◌, refl, sym, ◌∙◌}
use Prim.Native.Nat.{ℕ, ◌+◌, ◌<◌}
use native.Mathlib.Nat.{add-zero}
use native.Mathlib.Omega.{arith}
use borrow.Author.Tests.{eq-eqb, ne_eqb}
use lib.Dec.{eqb}
use Rattle.laws.specs.Count.{one, count, keep, join_below}
use Rattle.laws.proofs.Cases.{test, eqb_swap}
use Rattle.laws.proofs.Sum.{sum_same}
use Rattle.laws.proofs.Count.{count_map, count_same, count_sum, count_keep, count_join, count_split}
use Rattle.flow.specs.declared.Flow.{Flow}
use Rattle.flow.specs.Plan.{Plan, flow_at}
use Rattle.flow.specs.Ranges.{FlowOk, PlanOk}
use Rattle.router.specs.Rule.{Way, via, leave}
use Rattle.router.specs.Delivery.{Delivery}
use Rattle.book.specs.Line.{Stage, waiting, placed, left, Line, is_left, left_at, entry_of, exit_of}
use Rattle.book.specs.Book.{Book}
use Rattle.book.specs.Cycle.{enters, lowest, sent, is_deflected, move_stage, move, stepped, delivery_of, exits_of, deliveries}
use Rattle.book.proofs.Traced.{Sound, line_ok, traced_step}
use Rattle.book.proofs.Spans.{Lawful}

-- the exit is in cycle c, and its router
abbrev left_in : ℕ → Stage → Bool
left_in c waiting = false
left_in c (placed e at) = false
left_in c (left e t x y) = eqb t c

abbrev column_left : Stage → ℕ
column_left waiting = 0
column_left (placed e at) = 0
column_left (left e t x y) = x

abbrev row_left : Stage → ℕ
row_left waiting = 0
row_left (placed e at) = 0
row_left (left e t x y) = y

left_at_lem : (c x y : ℕ) (t : Bool) (s : Stage) → left_at c x y s && t ≡ eqb (column_left s) x && (eqb (row_left s) y && (left_in c s && t))
left_at_lem c x y t waiting = rw (and-false (eqb 0 y)) (sym (and-false (eqb 0 x)))
left_at_lem c x y t (placed e at) = rw (and-false (eqb 0 y)) (sym (and-false (eqb 0 x)))
left_at_lem c x y t (left e u x' y') = rw (eqb_swap x x', eqb_swap y y') (sort (eqb u c) (eqb x' x) (eqb y' y))
  where
    sort : (a b d : Bool) → a && b && d && t ≡ b && (d && (a && t))
    sort true b d = assoc b d
      where
        assoc : (b d : Bool) → b && d && t ≡ b && (d && t)
        assoc true d = refl
        assoc false d = refl
    sort false b d = rw (and-false d) (sym (and-false b))

-- the exits of a cycle, router by router, are those of the lines
exits_count : (p : Plan) (c : ℕ) (ls : List Line) → ((l : Line) → Mem l ls → (column_left l.stage < p.sx) × (row_left l.stage < p.sy))
    → (t : Line → Bool) → count t (exits_of p c ls) ≡ count (λ l. left_in c l.stage && t l) ls
exits_count p c ls on t =
    count_join t p.sy _
    ∙ sum_same _ _ p.sy (λ y h. in_row y)
    ∙ sym (count_split now (λ l. row_left l.stage) p.sy ls (λ l m e. (on l m).1))
  where
    now : Line → Bool
    now l = left_in c l.stage && t l

    at : (x y : ℕ) → Line → Bool
    at x y l = eqb (column_left l.stage) x && (eqb (row_left l.stage) y && now l)

    in_column : (x y : ℕ) → count t (keep (λ l. left_at c x y l.stage) ls) ≡ count (at x y) ls
    in_column x y =
        count_keep t (λ l. left_at c x y l.stage) ls
        ∙ count_same (λ l. left_at c x y l.stage && t l) (at x y) ls (λ l m. left_at_lem c x y (t l) l.stage)

    in_row : (y : ℕ) → count t (join_below p.sx (λ x. keep (λ l. left_at c x y l.stage) ls)) ≡ count (λ l. eqb (row_left l.stage) y && now l) ls
    in_row y =
        count_join t p.sx _
        ∙ sum_same _ _ p.sx (λ x k. in_column x y)
        ∙ sym (count_split (λ l. eqb (row_left l.stage) y && now l) (λ l. column_left l.stage) p.sx ls (λ l m e. (on l m).0))

sent_left : (p : Plan) (c e x y : ℕ) (o : Way) → is_left (sent p c e x y o) ≡ left_in c (sent p c e x y o)
unfolding sent
sent_left p c e x y (via o) = refl
sent_left p c e x y leave = sym (eq-eqb c c refl)

-- a line has left and passes the test
abbrev pub gone : (Delivery → Bool) → Line → Bool
gone r l = is_left l.stage && r (delivery_of l)

-- its router is on the torus
left_on : (p : Plan) → PlanOk p → (f : Flow) → FlowOk p.sx p.sy f → (c D : ℕ) (s : Stage) → Sound p f c D s
    → (column_left s < p.sx) × (row_left s < p.sy)
left_on p ok f k c D waiting h = (ok.sx_least, ok.sy_least)
left_on p ok f k c D (placed e at) h = (ok.sx_least, ok.sy_least)
left_on p ok f k c D (left e t x y) h = (rw h.out.column k.xd_on, rw h.out.row k.yd_on)

module _ (p : Plan) (b : Book) (law : Lawful p b) (r : Delivery → Bool) where
  abbrev c : ℕ
  c = b.clock

  -- a line that has left stays as it is; one that leaves does so in this cycle
  leaving : (l : Line) (D : ℕ) (s : Stage) → Sound p (flow_at p l.flow) c D s
      → let new : Stage = move_stage p b l s in
      let words : ℕ → Stage → Delivery = λ d u. record { flow = l.flow; serial = l.serial; entry = entry_of u; exit = exit_of u; D = d } in
      let after : ℕ = D + one (is_deflected p b s) in
      one (is_left new && r (words after new)) ≡ one (is_left s && r (words D s)) + one (left_in c new && r (words after new))
  leaving l D waiting h =
      elim (test (enters p b l.flow && lowest b l)) [ inl go ↦ rw (go, sent_left) (omega arith) | inr go ↦ rw go ]
  leaving l D (placed e at) h = rw sent_left (omega arith)
  leaving l D (left e t x y) h = rw (add-zero, ne_eqb t c (omega (arith, h.past))) (omega arith)

  pub step_delivered : count (gone r) (stepped p b).lines ≡ count (gone r) b.lines + count r (deliveries p b)
  unfolding deliveries
  step_delivered =
      omega (
        arith,
        told,
        count_map (gone r) (move p b) b.lines,
        count_sum (λ l. gone r (move p b l)) (gone r) now b.lines (λ l m. leaving l l.D l.stage (law.traced.sound l m)),
      )
    where
      after : List Line
      after = (stepped p b).lines

      now : Line → Bool
      now l = left_in c (move p b l).stage && r (delivery_of (move p b l))

      on : (l : Line) → Mem l after → (column_left l.stage < p.sx) × (row_left l.stage < p.sy)
      on l m =
          let tr = traced_step p law.plan b law.traced in
          left_on p law.plan (flow_at p l.flow) (line_ok p law.plan (stepped p b) tr l m) (c + 1) l.D l.stage (tr.sound l m)

      told : count r (map delivery_of (exits_of p c after)) ≡ count now b.lines
      told =
          count_map r delivery_of (exits_of p c after)
          ∙ exits_count p c after on (λ l. r (delivery_of l))
          ∙ count_map (λ l. left_in c l.stage && r (delivery_of l)) (move p b) b.lines
