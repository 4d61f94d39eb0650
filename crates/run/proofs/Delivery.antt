-- What a cycle on the state of a book delivers is what the book delivers, in the same order (01, One cycle). Rests on Outputs.
use mathlib.Core.Bool.{true, ◌&&◌, false≢true}
use mathlib.Core.List.Memᴰ.{head as here}
use mathlib.Core.List.{List, [], ◌∷◌, map, map-append, Memᴰ as Mem}
use mathlib.Core.Path.{◌≡◌, refl, sym, ap, ◌∙◌}
use Prim.Native.Nat.{ℕ, ◌≤◌, ◌<◌}
use native.Mathlib.Omega.{arith}
use borrow.Author.Tests.{eqb-true}
use lib.Dec.{eqb}
use lib.ListN.{length, length-map}
use Rattle.laws.specs.Count.{keep, join_below}
use Rattle.laws.proofs.Cases.{and_true}
use Rattle.laws.proofs.Stands.{join_same}
use Rattle.laws.proofs.Keep.{kept, join_through}
use Rattle.flow.specs.Plan.{Plan}
use Rattle.router.specs.Rule.{leave}
use Rattle.book.specs.Line.{Stage, waiting, placed, left, Line, left_at, entry_of, exit_of}
use Rattle.book.specs.Book.{Book}
use Rattle.book.specs.Cycle.{move, stepped, delivery_of}
use Rattle.book.specs.Cycle as Cycle
use Rattle.book.proofs.Outputs.{outgoing, one_output}
use Rattle.book.proofs.Sends.{departures}
use Rattle.book.proofs.Kept.{Kept}
use Rattle.cycle.specs.Step.{leaving, delivered, deliveries}
use Rattle.run.specs.View.{holding, book_state}
use Rattle.run.proofs.Outputs.{carries}

left_exit : (c x y : ℕ) (s : Stage) → left_at c x y s ≡ true → exit_of s ≡ c
left_exit c x y waiting e = absurd (false≢true e)
left_exit c x y (placed e' at) e = absurd (false≢true e)
left_exit c x y (left e' t x' y') e =
    eqb-true t c (and_true (eqb t c) (eqb x x') (and_true (eqb t c && eqb x x') (eqb y y') e).0).0

-- a packet that exits in cycle c delivers what its line does
leaving_line : (c : ℕ) (ls : List Line) → length ls ≤ 1 → ((l : Line) → Mem l ls → exit_of l.stage ≡ c) → leaving c (holding ls) ≡ map delivery_of ls
leaving_line c [] h now = refl
leaving_line c (l ∷ []) h now = sym (λ i. record { flow = l.flow; serial = l.serial; entry = entry_of l.stage; exit = now l (here refl) i; D = l.D } ∷ [])
leaving_line c (l ∷ m ∷ ls) h now = absurd (omega arith)

module _ (p : Plan) (b : Book) (k : Kept p b) where
  -- the lines that left there in the step
  abbrev leavers : (x y : ℕ) → List Line
  leavers x y = keep (λ l. left_at b.clock x y l.stage) (stepped p b).lines

  router : (x y : ℕ) → x < p.sx → y < p.sy → delivered (book_state p b) x y ≡ map delivery_of (leavers x y)
  unfolding delivered book_state
  router x y lx ly =
      let gone = departures p b k.lawful x y in
      ap (leaving b.clock) (carries p b k x y leave lx ly ∙ ap holding (sym gone))
      ∙ leaving_line b.clock (leavers x y)
      (rw (gone, length-map (outgoing p b x y leave) (move p b)) (one_output p b x y k.apart k.lawful.queued leave))
      (λ l m. left_exit b.clock x y l.stage (kept (λ (z : Line). left_at b.clock x y z.stage) (stepped p b).lines m).1)

  -- routers by row then column
  pub deliveries_follow : deliveries (book_state p b) ≡ Cycle.deliveries p b
  unfolding deliveries Cycle.deliveries book_state
  deliveries_follow =
      join_same p.sy _ _ (λ y ly. join_same p.sx _ _ (λ x lx. router x y lx ly) ∙ sym (through p.sx (λ x. leavers x y)))
      ∙ sym (through p.sy (λ y. join_below p.sx (λ x. leavers x y)))
    where
      through : (n : ℕ) (f : ℕ → List Line) → map delivery_of (join_below n f) ≡ join_below n (λ i. map delivery_of (f i))
      through n f = join_through (map delivery_of) refl (map-append delivery_of) n f
