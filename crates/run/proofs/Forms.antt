-- The numbers of a book's state fit, so its words form a state and 9 never comes up (01, State memory; The packet book). Rests on
-- what the book keeps.
use mathlib.Core.Bool.{true}
use mathlib.Core.List.Memᴰ.{head as here}
use mathlib.Core.List.{List, [], ◌∷◌, Memᴰ as Mem}
use mathlib.Core.Path.{◌≡◌, refl, ap, ◌∙◌}
use Prim.Native.Nat.{ℕ, ◌<◌}
use borrow.Author.Tests.{lt-ltb, le-leb}
use lib.ListN.{length}
use Rattle.laws.proofs.Keep.{kept}
use Rattle.flow.specs.Plan.{Plan, flow_at}
use Rattle.place.specs.Place.{Place, W, N}
use Rattle.book.specs.Line.{Line, stands_in, entry_of}
use Rattle.book.specs.Book.{Book, waiting_of, entered_of}
use Rattle.book.specs.Cycle.{lines_in}
use Rattle.flow.specs.Limits.{most_waiting}
use Rattle.book.proofs.Kept.{Kept}
use Rattle.book.proofs.State.{bucket_fits_lem, in_register}
use Rattle.state.specs.declared.Cell.{Cell}
use Rattle.state.specs.Forms.{tally_fits}
use Rattle.state.proofs.Formed.{register_ok, StateOk}
use Rattle.run.specs.View.{holding, register_of, tally_of, book_state}
use Rattle.run.proofs.View.{tally_at_lem, cell_at_lem}

module _ (p : Plan) (b : Book) (k : Kept p b) where
  tally_fits_lem : (f : ℕ) → f < length p.flows → tally_fits b.clock (flow_at p f) (tally_of b f) ≡ true
  unfolding tally_fits
  tally_fits_lem f l =
      rw (bucket_fits_lem p b k f l, le-leb (waiting_of b f) most_waiting (k.waiting_most f), le-leb (entered_of b f) b.clock (k.entered_most f))

  -- the packet in a register is that of a line placed there
  register_ok_lem : (place : Place) → register_ok (book_state p b) place (register_of b place) ≡ true
  unfolding register_of book_state
  register_ok_lem place = by_lines (lines_in b place) (λ l m. kept (λ (z : Line). stands_in place z.stage) b.lines m)
    where
      by_lines : (ls : List Line) → ((l : Line) → Mem l ls → Mem l b.lines × (stands_in place l.stage ≡ true))
          → register_ok (book_state p b) place (holding ls) ≡ true
      by_lines [] inside = refl
      by_lines (l ∷ ls) inside =
          let m = inside l (here refl) in
          let below = k.lawful.traced.known l m.0 in
          let n = in_register p b k l m.0 place m.1 in
          rw (
            tally_at_lem p b l.flow below,
            lt-ltb l.flow (length p.flows) below,
            le-leb 1 l.serial n.least,
            le-leb l.serial (entered_of b l.flow) n.most,
            lt-ltb (entry_of l.stage) b.clock n.before,
            n.in_place,
          )

  pub book_ok : StateOk (book_state p b)
  unfolding book_state
  book_ok =
      record {
        plan_ok = k.lawful.plan;
        tally_ok = λ f l. rw (tally_at_lem p b f l) (tally_fits_lem f l);
        west_ok = λ x y l m. ap (λ (c : Cell). register_ok (book_state p b) (W x y) c.west) (cell_at_lem p b x y l m) ∙ register_ok_lem (W x y);
        north_ok = λ x y l m. ap (λ (c : Cell). register_ok (book_state p b) (N x y) c.north) (cell_at_lem p b x y l m) ∙ register_ok_lem (N x y);
      }
