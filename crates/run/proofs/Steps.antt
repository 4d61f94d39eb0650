-- Many steps on the state of a book are the book's steps, one after the other. Rests on Step and Delivery, and on the laws of many steps.
use mathlib.Core.List.{List, ◌++◌}
use mathlib.Core.Path.{◌≡◌, refl, sym, ap, subst, ◌∙◌}
use Prim.Native.Nat.{ℕ, zero, suc, ◌-◌, ◌*◌}
use lib.ListN.{length}
use Rattle.laws.specs.Turns.{turns}
use Rattle.flow.specs.Plan.{Plan}
use Rattle.flow.specs.Limits.{exit_size, used_room, step_number}
use Rattle.refusal.specs.Answer.{Done}
use Rattle.router.specs.Delivery.{words_of}
use Rattle.book.specs.Book.{Book}
use Rattle.book.specs.Feed.{Fed, advanced, ran_many}
use Rattle.book.specs.Feed as Feed
use Rattle.book.proofs.Kept.{Kept, kept_many}
use Rattle.state.specs.Words.{state_words}
use Rattle.state.specs.Read.{state_of}
use Rattle.state.specs.Outcome.{outcome, lent, over}
use Rattle.cycle.specs.Step.{step_state, deliveries, step_on}
use Rattle.cycle.specs.Steps.{steps_on}
use Rattle.cycle.specs.Progress.{Progress, next_number, progress}
use Rattle.cycle.specs.Progress as Progress
use Rattle.cycle.proofs.Steps.{steps_done}
use Rattle.run.specs.View.{book_state}
use Rattle.run.proofs.Step.{step_follows}
use Rattle.run.proofs.Delivery.{deliveries_follow}

-- the state that they have reached is the book's, and so is what they have delivered
record Same (p : Plan) (r : Progress) (f : Fed) : Type 0 where
  state : r.state ≡ book_state p f.book
  delivered : r.delivered ≡ f.delivered

module _ (p : Plan) (b : Book) (k : Kept p b) where
  number_same : (room : ℕ) (r : Progress) (f : Fed) → Same p r f
      → next_number room r ≡ step_number p (room - exit_size * length f.delivered) f.book.clock
  unfolding book_state
  number_same room r f h = rw (h.state, h.delivered)

  same_more : (r : Progress) (f : Fed) → Kept p f.book → Same p r f → (n : ℕ) → Same p (Progress.advanced n r) (advanced p n f)
  same_more r f kept h zero =
      record {
        state = ap step_state h.state ∙ step_follows p f.book kept;
        delivered = (λ j. h.delivered j ++ deliveries (h.state j)) ∙ ap (λ ds. f.delivered ++ ds) (deliveries_follow p f.book kept);
      }
  same_more r f kept h (suc n) = h

  many_follow : (room cycles : ℕ) → Same p (progress (used_room room) (book_state p b) cycles) (ran_many p b room cycles)
  unfolding turns Progress.advance Feed.advance
  many_follow room zero = record { state = refl; delivered = refl }
  many_follow room (suc n) =
      let h = many_follow room n in
      let r = progress (used_room room) (book_state p b) n in
      let f = ran_many p b room n in
      let number = step_number p (used_room room - exit_size * length f.delivered) f.book.clock in
      subst (λ m. Same p (Progress.advanced m r) (advanced p number f)) (sym (number_same (used_room room) r f h))
      (same_more r f (kept_many p b k room n) h number)

  -- the call on words that have the book's state
  pub many_done : (w : List ℕ) → state_of w ≡ book_state p b → (d : List ℕ) (cycles n : ℕ) → (step_on w d).answer ≡ Done n
      → let now = ran_many p b (length d) cycles in
      outcome (Done (length now.delivered)) (lent (over (state_words (book_state p now.book)) w) (over (words_of now.delivered) d)) ≡ steps_on w d cycles
  many_done w is d cycles n e =
      let now = ran_many p b (length d) cycles in
      let same : Same p (progress (used_room (length d)) (state_of w) cycles) now =
      subst (λ s. Same p (progress (used_room (length d)) s cycles) now) (sym is) (many_follow (length d) cycles) in
      steps_done w d cycles n e _ _ _
      (record {
        exits_are = ap length (sym same.delivered);
        words_are = ap (λ s. over (state_words s) w) (sym same.state);
        delivery_is = ap (λ ds. over (words_of ds) d) (sym same.delivered);
      })
