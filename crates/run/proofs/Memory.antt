-- State memory that holds the words of a book, read whole or in part. Rests on Forms and on the laws of a state's words.
use mathlib.Core.Bool.{true, not}
use mathlib.Core.List.{List, ◌++◌}
use mathlib.Core.Path.{◌≡◌, sym, ap, ◌∙◌}
use Prim.Native.Nat.{ℕ, ◌+◌, ◌-◌, ◌≤◌, ◌<◌}
use native.Mathlib.Decide.{dec_lt}
use native.Mathlib.Omega.{arith}
use borrow.Author.Tests.{lt-ltb, le-ltb, not-false}
use lib.Dec.{ltb}
use lib.ListN.{length, take, drop, length-append}
use lib.Seq.{drop_at, take-append-add, drop-append-add, get_or-take, length-take-le}
use Rattle.laws.specs.Bounded.{all_below}
use Rattle.laws.proofs.Cases.{passed}
use Rattle.laws.proofs.Bounded.{length_tabulate}
use Rattle.laws.proofs.Grid.{length_grid}
use Rattle.laws.proofs.Stands.{Stands, stands_first}
use Rattle.flow.specs.Plan.{Plan}
use Rattle.book.specs.Book.{Book}
use Rattle.book.proofs.Kept.{Kept}
use Rattle.state.specs.Layout.{header_size, plan_size}
use Rattle.state.specs.Words.{state_words}
use Rattle.state.specs.Read.{plan_in, state_of}
use Rattle.state.specs.Forms.{header_fits, size_in, state_number}
use Rattle.state.specs.Outcome.{over}
use Rattle.state.proofs.Words.{length_words}
use Rattle.state.proofs.Read.{Sized, sx_read, sy_read, count_read, plan_read, read_back}
use Rattle.state.proofs.Formed.{words_form}
use Rattle.run.specs.View.{cell_of, tally_of, book_state}
use Rattle.run.proofs.Forms.{book_ok}

-- the words of a book's state, and others behind them
abbrev pub image : Plan → Book → (tail : List ℕ) → List ℕ
image p b tail = state_words (book_state p b) ++ tail

-- the first eight words of a part
header_part : (w : List ℕ) (room : ℕ) → header_size ≤ room → header_fits (take room w) ≡ header_fits w
unfolding header_fits all_below
header_part w room h =
    rw (
      get_or-take room w 0 0 (omega arith),
      get_or-take room w 1 0 (omega arith),
      get_or-take room w 2 0 (omega arith),
      get_or-take room w 4 0 (omega arith),
      get_or-take room w 5 0 (omega arith),
      get_or-take room w 6 0 (omega arith),
      get_or-take room w 7 0 (omega arith),
    )

size_part : (w : List ℕ) (room : ℕ) → header_size ≤ room → size_in (take room w) ≡ size_in w
size_part w room h = rw (get_or-take room w 0 0 (omega arith), get_or-take room w 1 0 (omega arith), get_or-take room w 2 0 (omega arith))

-- the first eight words of words that form a state
header_formed : (w : List ℕ) → state_number w ≡ 0 → header_fits w ≡ true
unfolding state_number
header_formed w e =
    let eight = passed (ltb (length w) header_size) 7 _ e in not-false (header_fits w) (passed (not (header_fits w)) 8 _ eight.1).0

length_state : (p : Plan) (b : Book) → length (state_words (book_state p b)) ≡ plan_size p
unfolding book_state
length_state p b = length_words (book_state p b)

module _ (p : Plan) (b : Book) where
  sized : Sized (book_state p b)
  unfolding book_state
  sized = record { tallies_all = length_tabulate (length p.flows) (tally_of b); cells_all = length_grid p.sx p.sy (cell_of b) }

  module _ (tail : List ℕ) where
    stands : Stands 0 (image p b tail) 0 (state_words (book_state p b))
    stands = stands_first 0 (state_words (book_state p b)) tail

    pub state_is : state_of (image p b tail) ≡ book_state p b
    state_is = read_back (book_state p b) tail sized

    pub plan_is : plan_in (image p b tail) ≡ p
    unfolding book_state
    plan_is = plan_read (book_state p b) (image p b tail) stands

    -- another book's words take the place of these
    pub image_again : (c : Book) → over (state_words (book_state p c)) (image p b tail) ≡ image p c tail
    image_again c = ap (λ rest. state_words (book_state p c) ++ rest) (drop_at (state_words (book_state p b)) tail _ (length_state p b ∙ sym (length_state p c)))

    module _ (n : ℕ) (enough : plan_size p ≤ n) where
      split : n ≡ length (state_words (book_state p b)) + (n - plan_size p)
      split = omega (arith, length_state p b)

      -- the whole state is among the first words
      pub image_part : take n (image p b tail) ≡ image p b (take (n - plan_size p) tail)
      image_part = ap (λ m. take m (image p b tail)) split ∙ take-append-add (state_words (book_state p b)) tail (n - plan_size p)

      pub image_rest : drop n (image p b tail) ≡ drop (n - plan_size p) tail
      image_rest = ap (λ m. drop m (image p b tail)) split ∙ drop-append-add (state_words (book_state p b)) tail (n - plan_size p)

    size_is : size_in (image p b tail) ≡ plan_size p
    unfolding book_state
    size_is =
        rw (
          count_read (book_state p b) (image p b tail) stands,
          sx_read (book_state p b) (image p b tail) stands,
          sy_read (book_state p b) (image p b tail) stands,
        )

    module _ (k : Kept p b) where
      pub number : state_number (image p b tail) ≡ 0
      number = words_form (book_state p b) (book_ok p b k) (image p b tail) stands

      -- lent too little of it: 8
      pub short : (n : ℕ) → n < plan_size p → state_number (take n (image p b tail)) ≡ 8
      unfolding state_number
      short n few =
          let w = image p b tail in
          let part = length-take-le n w (omega (arith, length_state p b, length-append (state_words (book_state p b)) tail)) in
          elim (dec_lt n header_size) [
            | yes l ↦ rw (lt-ltb (length (take n w)) header_size (omega arith))
            | no l ↦
                rw (
                  le-ltb (length (take n w)) header_size (omega arith),
                  header_part w n (omega arith) ∙ header_formed w number,
                  size_part w n (omega arith) ∙ size_is,
                  lt-ltb (length (take n w)) (plan_size p) (omega arith),
                )
          ]
