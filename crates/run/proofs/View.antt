-- What stands in the state of a book: each flow's tally, each router's registers. So the rule is fed the same by both, and the same
-- flows enter. Rests on specs/View and the rule's law of views that agree.
use mathlib.Core.List.{List, [], ◌∷◌}
use mathlib.Core.Path.{◌≡◌, refl, sym, ap, ◌∙◌}
use Prim.Native.Nat.{ℕ, ◌<◌}
use lib.Dec.{ltb}
use lib.ListN.{length}
use Rattle.laws.proofs.Bounded.{get_d_tabulate}
use Rattle.laws.proofs.Grid.{get_d_grid}
use Rattle.laws.proofs.Keep.{any_by_count}
use Rattle.flow.specs.Plan.{Plan}
use Rattle.flow.specs.Ranges.{PlanOk}
use Rattle.place.specs.Place.{Place, W, N}
use Rattle.router.specs.Rule.{entrant}
use Rattle.router.specs.Reasons.{reason_words}
use Rattle.router.proofs.Entrant.{Agree, entrant_same, enters_same}
use Rattle.router.proofs.Reasons.{reasons_same}
use Rattle.book.specs.Line.{Line}
use Rattle.book.specs.Book.{Book, waits_for}
use Rattle.book.specs.Cycle.{lines_in, first_flow, holds}
use Rattle.book.specs.Cycle as Cycle
use Rattle.state.specs.declared.Cell.{Cell}
use Rattle.state.specs.declared.Tally.{Tally}
use Rattle.state.specs.State.{tally_at, cell_at}
use Rattle.cycle.specs.Seen.{shown}
use Rattle.cycle.specs.Seen as Seen
use Rattle.cycle.specs.Reasons.{words_on}
use Rattle.run.specs.View.{holding, register_of, cell_of, tally_of, book_state}

module _ (p : Plan) (b : Book) where
  pub tally_at_lem : (f : ℕ) → f < length p.flows → tally_at (book_state p b) f ≡ tally_of b f
  unfolding book_state
  tally_at_lem f l = get_d_tabulate (length p.flows) (tally_of b) f _ l

  pub cell_at_lem : (x y : ℕ) → x < p.sx → y < p.sy → cell_at (book_state p b) x y ≡ cell_of b x y
  unfolding book_state
  cell_at_lem x y l k = get_d_grid p.sx p.sy (cell_of b) _ x y l k

  -- a register shows what the book holds there
  shown_same : (at : Place) → shown p (register_of b at) ≡ holds p b at
  unfolding register_of holds
  shown_same at = shows (lines_in b at)
    where
      shows : (ls : List Line) → shown p (holding ls) ≡ first_flow p ls
      shows [] = refl
      shows (l ∷ ls) = refl

  pub seen_same : (x y : ℕ) → x < p.sx → y < p.sy → Seen.seen (book_state p b) x y ≡ Cycle.seen p b x y
  unfolding book_state
  seen_same x y l k =
      ap (λ (c : Cell). record { west = shown p c.west; north = shown p c.north }) (cell_at_lem x y l k)
      ∙ (λ i. record { west = shown_same (W x y) i; north = shown_same (N x y) i })

  views_agree : Agree p (Seen.view (book_state p b)) (Cycle.view p b)
  views_agree =
      record {
        waits_same = λ f l. ap (λ (t : Tally). ltb 0 t.waiting) (tally_at_lem f l) ∙ sym (any_by_count (waits_for f) b.lines);
        token_same = λ f l. ap (λ (t : Tally). ltb 0 t.bucket.tokens) (tally_at_lem f l);
        seen_same = seen_same;
      }

  -- who enters
  pub entrants_agree : PlanOk p → (x y : ℕ) → entrant p (Seen.view (book_state p b)) x y ≡ entrant p (Cycle.view p b) x y
  entrants_agree ok x y = entrant_same p ok (Seen.view (book_state p b)) (Cycle.view p b) views_agree x y

  pub enters_agree : PlanOk p → (f : ℕ) → Seen.enters (book_state p b) f ≡ Cycle.enters p b f
  unfolding Seen.enters book_state
  enters_agree ok f = enters_same p ok (Seen.view (book_state p b)) (Cycle.view p b) views_agree f

  -- and why the others don't
  pub reasons_agree : PlanOk p → words_on (book_state p b) ≡ reason_words p (Cycle.view p b)
  unfolding book_state
  reasons_agree ok = reasons_same p ok (Seen.view (book_state p b)) (Cycle.view p b) views_agree
