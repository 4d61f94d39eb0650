-- The state of the book at its start is the reset state, and an offer on the state of a book is the book's offer. Rests on View.
use mathlib.Core.Bool.{and-true}
use mathlib.Core.List.{[], ◌∷◌, append-nil}
use mathlib.Core.Logic.{inl, inr}
use mathlib.Core.Path.{◌≡◌, refl, sym, ap, ◌∙◌}
use Prim.Native.Nat.{ℕ, ◌+◌, ◌<◌}
use native.Mathlib.Decide.{ℕ_discrete}
use native.Mathlib.Nat.{add-zero}
use native.Mathlib.Omega.{arith}
use borrow.Author.Tests.{leb-false, eq-eqb, ne_eqb}
use lib.Dec.{leb, eqb}
use lib.ListN.{length, get_or, set, length-set}
use lib.Seq.{get_or-set_same, get_or-set_other}
use Rattle.laws.specs.Bounded.{tabulate}
use Rattle.laws.specs.Count.{one}
use Rattle.laws.proofs.Cases.{test}
use Rattle.laws.proofs.Bounded.{length_tabulate, get_d_tabulate, is_tabulate}
use Rattle.laws.proofs.Count.{count_append}
use Rattle.laws.proofs.Keep.{keep_append}
use Rattle.laws.proofs.Grid.{tabulate_same, grid_same}
use Rattle.flow.specs.declared.Offerer.{Offerer}
use Rattle.flow.specs.Plan.{Plan, flow_at}
use Rattle.flow.specs.Limits.{offer_number}
use Rattle.bucket.specs.Regulator.{full_bucket}
use Rattle.place.specs.Place.{Place, W, N}
use Rattle.book.specs.Line.{stands_in}
use Rattle.book.specs.Cycle.{lines_in}
use Rattle.book.specs.Book.{Book, bucket_at, start, waits_for, waiting_of, entered_of, offered_line, offered}
use Rattle.book.proofs.Queue.{entered_offer}
use Rattle.state.specs.declared.Tally.{Tally}
use Rattle.state.specs.State.{tally_at, fresh_tally, reset_state}
use Rattle.cycle.specs.Offer.{offer_state}
use Rattle.run.specs.View.{holding, register_of, cell_of, tally_of, book_state}
use Rattle.run.proofs.View.{tally_at_lem}

pub start_follows : (p : Plan) → book_state p (start p) ≡ reset_state p
unfolding book_state register_of
start_follows p =
    let tallies = tabulate_same (length p.flows) (tally_of (start p)) (λ f. fresh_tally (flow_at p f).burst) (λ f l. tally f l) in
    λ i. record { plan = p; clock = 0; tallies = tallies i; cells = (reset_state p).cells }
  where
    tally : (f : ℕ) → f < length p.flows → tally_of (start p) f ≡ fresh_tally (flow_at p f).burst
    tally f l =
        let e = get_d_tabulate (length p.flows) (λ f. full_bucket (flow_at p f).burst) f (full_bucket 0) l in
        λ i. record { bucket = e i; entered = 0; waiting = 0 }

-- both sides give an offer the same number
pub offer_number_lem : (who : Offerer) (p : Plan) (b : Book) (f : ℕ) → let s = book_state p b in
    offer_number who s.plan f (tally_at s f).waiting ≡ offer_number who p f (waiting_of b f)
unfolding book_state offer_number
offer_number_lem who p b f =
    elim (test (leb (length p.flows) f)) [ inl out ↦ rw out | inr in_plan ↦ rw (tally_at_lem p b f (leb-false _ _ in_plan)) ]

-- one more waiting
pub waiting_offer : (b : Book) (f g : ℕ) → waiting_of (offered b f) g ≡ waiting_of b g + one (eqb f g)
waiting_offer b f g = count_append (waits_for g) b.lines (offered_line b f ∷ []) ∙ rw (add-zero, and-true (eqb f g))

module _ (p : Plan) (b : Book) (f : ℕ) (below : f < length p.flows) where
  -- a waiting line has no place
  offer_register : (at : Place) → register_of b at ≡ register_of (offered b f) at
  unfolding register_of
  offer_register at = ap holding (sym (keep_append (λ l. stands_in at l.stage) b.lines (offered_line b f ∷ []) ∙ append-nil (lines_in b at)))

  abbrev after : Tally
  after = record { bucket = (tally_of b f).bucket; entered = entered_of b f; waiting = waiting_of b f + 1 }

  offer_tally : (g : ℕ) → g < length p.flows → get_or (set (tabulate (length p.flows) (tally_of b)) f after) g (fresh_tally 0) ≡ tally_of (offered b f) g
  offer_tally g l =
      let old = tabulate (length p.flows) (tally_of b) in
      let long = length_tabulate (length p.flows) (tally_of b) in
      elim (ℕ_discrete g f) [
        | yes e ↦
            let waits : waiting_of (offered b f) f ≡ waiting_of b f + 1 = waiting_offer b f f ∙ rw (eq-eqb f f refl) in
            rw (e, get_or-set_same old f after (fresh_tally 0) (omega arith))
            (sym (λ i. record { bucket = bucket_at b f; entered = entered_offer b f f i; waiting = waits i }))
        | no e ↦
            let waits : waiting_of (offered b f) g ≡ waiting_of b g = waiting_offer b f g ∙ rw (ne_eqb f g (λ u. e (sym u)), add-zero) in
            rw (get_or-set_other old f g after (fresh_tally 0) e, get_d_tabulate (length p.flows) (tally_of b) g (fresh_tally 0) l)
            (sym (λ i. record { bucket = bucket_at b g; entered = entered_offer b f g i; waiting = waits i }))
      ]

  pub offer_follows : offer_state (book_state p b) f ≡ book_state p (offered b f)
  unfolding offer_state book_state
  offer_follows =
      let old = tabulate (length p.flows) (tally_of b) in
      let here = ap (λ (t : Tally). set old f (record { bucket = t.bucket; entered = t.entered; waiting = t.waiting + 1 })) (tally_at_lem p b f below) in
      let long = length-set old f after ∙ length_tabulate (length p.flows) (tally_of b) in
      let tallies = here ∙ is_tabulate (set old f after) (length p.flows) (tally_of (offered b f)) (fresh_tally 0) long offer_tally in
      let cells = grid_same p.sx p.sy (cell_of b) (cell_of (offered b f))
      (λ x y lx ly. λ i. record { west = offer_register (W x y) i; north = offer_register (N x y) i }) in
      λ i. record { plan = p; clock = b.clock; tallies = tallies i; cells = cells i }
