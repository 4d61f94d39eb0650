-- A set of offers on the state of a book is the book's: both refuse the same entry, or add the same lines. Rests on Offer and the laws
-- of first refusals.
use mathlib.Core.List.{List}
use mathlib.Core.Path.{◌≡◌, refl, ap, ◌∙◌}
use Prim.Native.Nat.{ℕ, zero, suc, ◌<◌}
use native.Mathlib.Omega.{arith}
use lib.ListN.{length, get_or}
use Rattle.laws.specs.Turns.{turns}
use Rattle.flow.specs.declared.Offerer.TheVariants.{Sonar}
use Rattle.flow.specs.Plan.{Plan}
use Rattle.flow.specs.Limits.{offer_number}
use Rattle.flow.proofs.Limits.{offer_passes}
use Rattle.refusal.specs.Answer.{Answer}
use Rattle.plan.specs.Set.{set_number, set_answer}
use Rattle.plan.proofs.Refusals.{first_same}
use Rattle.book.specs.Book.{Book, waiting_of, offered_first}
use Rattle.state.specs.State.{State, tally_at}
use Rattle.cycle.specs.Offer.{offer_state}
use Rattle.cycle.specs.Set.{with_first, waiting_after, entry_number}
use Rattle.run.specs.View.{book_state}
use Rattle.run.proofs.Offer.{offer_number_lem, offer_follows}

module _ (p : Plan) (b : Book) (flows : List ℕ) where
  -- what the book refuses an entry for, and a set
  abbrev book_number : ℕ → ℕ
  book_number = set_number p (λ n f. waiting_of (offered_first b flows n) f) flows

  abbrev pub book_answer : Answer
  book_answer = set_answer p (λ n f. waiting_of (offered_first b flows n) f) flows

  -- the state of the book with the first entries' lines
  pub set_follows : (n : ℕ) → ((k : ℕ) → k < n → book_number k ≡ 0) → with_first (book_state p b) flows n ≡ book_state p (offered_first b flows n)
  unfolding turns set_number
  set_follows zero passed = refl
  set_follows (suc n) passed =
      ap (λ (s : State). offer_state s (get_or flows n 0)) (set_follows n (λ k l. passed k (omega arith)))
      ∙ offer_follows p (offered_first b flows n) (get_or flows n 0) (offer_passes Sonar p _ _ (passed n (omega arith))).0

  number_same : (n : ℕ) → ((k : ℕ) → k < n → book_number k ≡ 0) → entry_number (book_state p b) flows n ≡ book_number n
  unfolding set_number book_state
  number_same n passed =
      ap (λ (s : State). offer_number Sonar p (get_or flows n 0) (tally_at s (get_or flows n 0)).waiting) (set_follows n passed)
      ∙ offer_number_lem Sonar p (offered_first b flows n) (get_or flows n 0)

  pub set_answer_lem : let s = book_state p b in set_answer s.plan (waiting_after s flows) flows ≡ book_answer
  set_answer_lem = first_same _ book_number (length flows) (λ n l passed. number_same n passed)
