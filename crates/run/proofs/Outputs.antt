-- What a way out of a router carries is the packet of the line that the book sends there, if any (01, One cycle, rules 1 and 3). Rests on
-- View and the book's Outputs.
use mathlib.Core.Bool.{Bool, true, false, ◌&&◌, false≢true}
use mathlib.Core.List.Memᴰ.{head as here}
use mathlib.Core.List.{List, [], ◌∷◌, map, Memᴰ as Mem}
use mathlib.Core.Logic.{inl, inr}
use mathlib.Core.Option.{Option}
use mathlib.Core.Path.{◌≡◌, refl, sym, ap, ◌∙◌}
use Prim.Native.Nat.{ℕ, ◌+◌, ◌<◌}
use native.Mathlib.Nat.{add-zero}
use native.Mathlib.Omega.{arith}
use borrow.Author.Tests.{eq-eqb, eqb-true}
use lib.ListN.{length}
use Rattle.laws.specs.Count.{one, count, keep}
use Rattle.laws.proofs.Cases.{test, and_true, both_eqb}
use Rattle.laws.proofs.Count.{count_find}
use Rattle.laws.proofs.Keep.{kept, keep_one}
use Rattle.flow.specs.declared.Flow.{Flow}
use Rattle.flow.specs.Plan.{Plan, flow_at}
use Rattle.place.specs.Place.{Place, W, N, column_of, row_of}
use Rattle.router.specs.Rule.{deflects, Way, same_way, takes, entrant, is_flow, way_in}
use Rattle.router.proofs.Links.{place_same}
use Rattle.router.proofs.Entrant.{Found, no_entrant, has_entrant, found, enters_at}
use Rattle.book.specs.Line.{Stage, waiting, placed, left, Line, is_waiting, stands_in, entry_of}
use Rattle.book.specs.Book.{Book, of_flow, entered_of}
use Rattle.book.specs.Cycle.{lines_in, seen, view, enters, is_deflected, lowest, move_stage, move}
use Rattle.book.proofs.Moves.{goes, sent_entry, Turn, keeps, stays, comes, turn}
use Rattle.book.proofs.Queue.{lowest_next, goes_count}
use Rattle.book.proofs.Traced.{Sound}
use Rattle.book.proofs.Outputs.{outgoing, entrants_of, outgoing_is}
use Rattle.book.proofs.Kept.{Kept}
use Rattle.std.specs.Prelude.{Some, None}
use Rattle.state.specs.Register.{packet_with}
use Rattle.cycle.specs.Step.{onward, entering, sends_by, sent_by, carried}
use Rattle.run.specs.View.{packet_of, holding, register_of, book_state}
use Rattle.run.proofs.View.{tally_at_lem, cell_at_lem, seen_same, entrants_agree}

module _ (p : Plan) (b : Book) (l : Line) where
  -- a placed line's step, as a register has it
  stage_moves : (at : Place) (s : Stage) → stands_in at s ≡ true
      → (is_deflected p b s ≡ deflects (seen p b (column_of at) (row_of at)) at) × (entry_of (move_stage p b l s) ≡ entry_of s)
  stage_moves at waiting e = absurd (false≢true e)
  stage_moves at (placed e' here') e =
      (ap (λ (a : Place). deflects (seen p b (column_of a) (row_of a)) a) (place_same at here' e), sent_entry p _ _ _ _ _)
  stage_moves at (left e' t x y) e = absurd (false≢true e)

  onward_is : (flow serial entry D : ℕ) (d : Bool) → Some (packet_with flow serial entry (D + one d)) ≡ onward d (Some (packet_with flow serial entry D))
  onward_is flow serial entry D true = refl
  onward_is flow serial entry D false = rw add-zero

  packet_moves : (at : Place) → stands_in at l.stage ≡ true → packet_of (move p b l) ≡ onward (deflects (seen p b (column_of at) (row_of at)) at) (packet_of l)
  packet_moves at e =
      let h = stage_moves at l.stage e in
      (λ i. Some (packet_with l.flow l.serial (h.1 i) (l.D + one (h.0 i))))
      ∙ onward_is l.flow l.serial (entry_of l.stage) l.D (deflects (seen p b (column_of at) (row_of at)) at)

-- the line in a register, after the step
network : (p : Plan) (b : Book) (at : Place)
    → onward (deflects (seen p b (column_of at) (row_of at)) at) (register_of b at) ≡ holding (map (move p b) (lines_in b at))
unfolding register_of
network p b at = sends (lines_in b at) (λ l m. (kept (λ (z : Line). stands_in at z.stage) b.lines m).1)
  where
    empty : (d : Bool) → onward d None ≡ None
    empty true = refl
    empty false = refl

    sends : (ls : List Line) → ((l : Line) → Mem l ls → stands_in at l.stage ≡ true)
        → onward (deflects (seen p b (column_of at) (row_of at)) at) (holding ls) ≡ holding (map (move p b) ls)
    sends [] inside = empty (deflects (seen p b (column_of at) (row_of at)) at)
    sends (l ∷ ls) inside = sym (packet_moves p b l at (inside l (here refl)))

-- a waiting line has no deflection, and gets none
waits_fresh : (p : Plan) (b : Book) (f : Flow) (c D : ℕ) (s : Stage) → is_waiting s ≡ true → Sound p f c D s → D + one (is_deflected p b s) ≡ 0
waits_fresh p b f c D waiting w h = rw (add-zero, h)
waits_fresh p b f c D (placed e at) w h = absurd (false≢true w)
waits_fresh p b f c D (left e t x y) w h = absurd (false≢true w)

module _ (p : Plan) (b : Book) (k : Kept p b) where
  -- the packet of a line that enters
  packet_enters : (l : Line) → Mem l b.lines → goes p b l ≡ true → packet_of (move p b l) ≡ Some (packet_with l.flow (entered_of b l.flow + 1) b.clock 0)
  packet_enters l m g =
      let w = and_true (is_waiting l.stage) (enters p b l.flow && lowest b l) g in
      let low = (and_true (enters p b l.flow) (lowest b l) w.1).1 in
      let serial = eqb-true l.serial (entered_of b l.flow + 1) (sym (lowest_next b k.lawful.queued l m w.0) ∙ low) in
      let D = waits_fresh p b (flow_at p l.flow) b.clock l.D l.stage w.0 (k.lawful.traced.sound l m) in
      let entry = new_entry (turn p b l) in
      λ i. Some (packet_with l.flow (serial i) (entry i) (D i))
    where
      new_entry : Turn p b l → entry_of (move p b l).stage ≡ b.clock
      new_entry (keeps w w' e g') = absurd (false≢true (sym g' ∙ g))
      new_entry (stays w w' g') = absurd (false≢true (sym g' ∙ g))
      new_entry (comes w w' e g') = e

  -- where flow f enters, one line does, with the packet that its client sends
  entering_line : (f : ℕ) → f < length p.flows → enters p b f ≡ true
      → entering (book_state p b) f ≡ holding (map (move p b) (keep (λ l. of_flow f l && goes p b l) b.lines))
  unfolding book_state
  entering_line f below en =
      let t : Line → Bool = λ l. of_flow f l && goes p b l in
      let c : count t b.lines ≡ 1 = goes_count b k.lawful.queued p f ∙ ap one en in
      let l = count_find t b.lines (omega arith) in
      let h = and_true (of_flow f l.0) (goes p b l.0) l.2 in
      rw (keep_one t b.lines (omega arith) l.0 l.1 l.2, tally_at_lem p b f below)
      (sym (packet_enters l.0 l.1 h.1 ∙ rw (eqb-true l.0.flow f h.0)))

  -- what a client sends
  client : (x y : ℕ) (o : Way) → sends_by (book_state p b) o (entrant p (view p b) x y) ≡ holding (map (move p b) (entrants_of p b o (entrant p (view p b) x y)))
  unfolding sends_by book_state
  client x y o = by_entrant refl (found p (view p b) x y)
    where
      by_entrant : {e : Option ℕ} → entrant p (view p b) x y ≡ e → Found p (view p b) x y e
          → sends_by (book_state p b) o e ≡ holding (map (move p b) (entrants_of p b o e))
      by_entrant e (no_entrant low) = refl
      by_entrant e (has_entrant f h) =
          let at = both_eqb x (flow_at p f).xs y (flow_at p f).ys h.column h.row in
          let en = enters_at p (view p b) x y f at ∙ ap (is_flow f) e ∙ eq-eqb f f refl in
          elim (test (same_way (way_in p f) o)) [ inl way ↦ rw way (entering_line f h.below en) | inr way ↦ rw way ]

  module _ (x y : ℕ) (o : Way) where
    -- the packet that takes a way out, of the three that the book's router has
    by_source : sent_by (seen p b x y) x y o (register_of b (W x y)) (register_of b (N x y)) (sends_by (book_state p b) o (entrant p (view p b) x y))
        ≡ holding (map (move p b) (outgoing p b x y o))
    unfolding sent_by
    by_source =
        rw (outgoing_is p b x y k.apart o)
        (elim (test (takes (seen p b x y) (W x y) o)) [
          | inl w ↦ rw w (network p b (W x y))
          | inr w ↦ elim (test (takes (seen p b x y) (N x y) o)) [ inl n ↦ rw (w, n) (network p b (N x y)) | inr n ↦ rw (w, n) (client x y o) ]
        ])

    -- and that the state's router has
    pub carries : x < p.sx → y < p.sy → carried (book_state p b) x y o ≡ holding (map (move p b) (outgoing p b x y o))
    unfolding carried book_state
    carries l m = rw (seen_same p b x y l m, cell_at_lem p b x y l m, entrants_agree p b k.lawful.plan x y) by_source
