-- Lines read off the state memory, above all those that accepted offers add. Rests on the laws of a state's words and of the book's queues.
use mathlib.Core.Bool.{false}
use mathlib.Core.List.{List, [], ◌∷◌, ◌++◌, append-nil, append_assoc}
use mathlib.Core.Path.{◌≡◌, refl, sym, ap, ◌∙◌}
use Prim.Native.Nat.{ℕ, zero, suc, ◌+◌, ◌≤◌, ◌<◌}
use native.Mathlib.Nat.{add-zero}
use native.Mathlib.Omega.{arith}
use lib.Dec.{eqb}
use lib.ListN.{length, get_or, take}
use lib.Seq.{take-suc}
use Rattle.laws.specs.Bounded.{tabulate}
use Rattle.laws.specs.Count.{count}
use Rattle.laws.specs.Turns.{turns}
use Rattle.laws.proofs.Count.{count_append}
use Rattle.laws.proofs.Grid.{tabulate_same}
use Rattle.laws.proofs.Stands.{stands_first}
use Rattle.flow.specs.Plan.{Plan}
use Rattle.book.specs.Line.{Line, Stage, waiting, placed, left, is_waiting, entry_of}
use Rattle.book.specs.Book.{Book, total_of, waiting_of, entered_of, offered_line, offered_first}
use Rattle.book.specs.Promises.{EntersBy}
use Rattle.book.proofs.Queue.{set_keeps, entered_offer, total_split}
use Rattle.state.specs.declared.Tally.{Tally}
use Rattle.state.specs.Read.{clock_in}
use Rattle.state.specs.Words.{state_words}
use Rattle.state.proofs.Read.{clock_read, tally_at_read}
use Rattle.run.specs.View.{book_state, tally_of}
use Rattle.run.specs.Answers.{tally_for, line_behind, accepted_line, entry_line}
use Rattle.run.proofs.View.{tally_at_lem}
use Rattle.run.proofs.Memory.{image}
use Rattle.run.proofs.Offer.{waiting_offer}

-- past its deadline a line has entered
pub entered_by : {deadline cycle clock : ℕ} (s : Stage) → deadline ≤ cycle → cycle < clock → EntersBy deadline clock s
    → (is_waiting s ≡ false) × (entry_of s ≤ cycle)
entered_by waiting later past h = absurd (omega arith)
entered_by (placed e at) later past h = (refl, omega arith)
entered_by (left e t x y) later past h = (refl, omega arith)

module _ (p : Plan) (b : Book) (tail : List ℕ) (f : ℕ) (known : f < length p.flows) where
  abbrev w : List ℕ
  w = image p b tail

  pub tally_is : tally_for w f ≡ tally_of b f
  unfolding book_state
  tally_is = tally_at_read (book_state p b) w (stands_first 0 (state_words (book_state p b)) tail) f known ∙ tally_at_lem p b f known

  pub clock_is : clock_in w ≡ b.clock
  unfolding book_state
  clock_is = clock_read (book_state p b) w (stands_first 0 (state_words (book_state p b)) tail)

  -- the line of a packet behind q others
  abbrev behind : (q : ℕ) → Line
  behind q = record { flow = f; serial = entered_of b f + q + 1; offer = b.clock; q = q; D = 0; stage = waiting }

  behind_is : (q : ℕ) → line_behind w f q ≡ behind q
  behind_is q =
      let entered = ap (λ (t : Tally). t.entered) tally_is in
      λ j. record { flow = f; serial = entered j + q + 1; offer = clock_is j; q = q; D = 0; stage = waiting }

  -- a later book's offer, with so many more of the flow waiting and none entered since
  line_behind_lem : (c : Book) (more : ℕ) → c.clock ≡ b.clock → entered_of c f ≡ entered_of b f → waiting_of c f ≡ waiting_of b f + more
      → offered_line c f ≡ line_behind w f ((tally_for w f).waiting + more)
  line_behind_lem c more clock entered waits =
      let q : waiting_of c f ≡ (tally_for w f).waiting + more = waits ∙ ap (λ (t : Tally). t.waiting + more) (sym tally_is) in
      let serial : total_of c f + 1 ≡ entered_of b f + waiting_of c f + 1 = omega (arith, total_split c f, entered) in
      let line : offered_line c f ≡ behind (waiting_of c f) =
      λ j. record { flow = f; serial = serial j; offer = clock j; q = waiting_of c f; D = 0; stage = waiting } in
      line ∙ sym (behind_is (waiting_of c f)) ∙ ap (line_behind w f) q

  pub line_read : accepted_line w f ≡ offered_line b f
  line_read = ap (line_behind w f) (sym (add-zero _)) ∙ sym (line_behind_lem b 0 refl refl (sym (add-zero _)))

-- the book with the first entries' lines: its clock and what has entered stay, and the entries wait
module _ (b : Book) (flows : List ℕ) where
  set_clock : (n : ℕ) → (offered_first b flows n).clock ≡ b.clock
  set_clock n = set_keeps b flows (λ (now : Book). now.clock ≡ b.clock) (λ now f e. e) n refl

  pub set_entered : (f n : ℕ) → entered_of (offered_first b flows n) f ≡ entered_of b f
  set_entered f n = set_keeps b flows (λ (now : Book). entered_of now f ≡ entered_of b f) (λ now g e. entered_offer now g f ∙ e) n refl

  pub set_waiting : (f n : ℕ) → n ≤ length flows → waiting_of (offered_first b flows n) f ≡ waiting_of b f + count (λ g. eqb g f) (take n flows)
  unfolding turns
  set_waiting f zero l = sym (add-zero _)
  set_waiting f (suc n) l =
      let more = waiting_offer (offered_first b flows n) (get_or flows n 0) f in
      let split = count_append (λ g. eqb g f) (take n flows) (get_or flows n 0 ∷ []) in
      rw (take-suc flows n 0 (omega arith)) (omega (arith, more, split, set_waiting f n (omega arith)))

  set_lines : (n : ℕ) → (offered_first b flows n).lines ≡ b.lines ++ tabulate n (λ k. offered_line (offered_first b flows k) (get_or flows k 0))
  unfolding turns tabulate
  set_lines zero = sym (append-nil b.lines)
  set_lines (suc n) =
      ap (λ ls. ls ++ (offered_line (offered_first b flows n) (get_or flows n 0) ∷ [])) (set_lines n)
      ∙ append_assoc b.lines (tabulate n (λ k. offered_line (offered_first b flows k) (get_or flows k 0))) _

  -- the lines of a set, entry by entry
  pub lines_read : (p : Plan) (tail : List ℕ) → ((k : ℕ) → k < length flows → get_or flows k 0 < length p.flows)
      → (offered_first b flows (length flows)).lines ≡ b.lines ++ tabulate (length flows) (entry_line (image p b tail) flows)
  lines_read p tail known =
      set_lines (length flows)
      ∙ ap (λ ls. b.lines ++ ls) (tabulate_same (length flows) _ (entry_line (image p b tail) flows)
      (λ k l. line_behind_lem p b tail (get_or flows k 0) (known k l) (offered_first b flows k) _ (set_clock k) (set_entered _ k) (set_waiting _ k (omega arith))))
