-- Bursts enter in time, read off the state memory. Rests on List, Lines, Accepted and the book's bursts.
use mathlib.Core.Bool.{◌&&◌}
use mathlib.Core.List.{List, ◌++◌, Memᴰ as Mem}
use mathlib.Core.Path.{◌≡◌, sym, ap, ◌∙◌}
use Prim.Native.Nat.{ℕ, ◌+◌, ◌≤◌, ◌<◌}
use native.Mathlib.Omega.{arith}
use lib.Dec.{eqb}
use lib.ListN.{length, drop}
use Rattle.laws.proofs.Cases.{eqb_both}
use Rattle.laws.proofs.Count.{count_find}
use Rattle.flow.specs.Plan.{Plan}
use Rattle.std.specs.Prelude.{Some}
use Rattle.window.specs.Window.{burst_window_of}
use Rattle.window.proofs.BurstWindows.{burst_least}
use Rattle.book.specs.Line.{Line}
use Rattle.book.specs.Book.{Book, of_flow, total_of, waiting_of, entered_of}
use Rattle.book.specs.Feed.{run_from}
use Rattle.book.proofs.Queue.{serial_once, total_split}
use Rattle.book.proofs.Kept.{Kept, kept_from}
use Rattle.book.proofs.Bursts.{Bursts, bursts, Unstepped, unstepped}
use Rattle.state.specs.declared.Tally.{Tally}
use Rattle.state.specs.Layout.{plan_size}
use Rattle.state.specs.Read.{clock_in}
use Rattle.run.specs.View.{tally_of}
use Rattle.run.specs.Calls.{Item}
use Rattle.run.specs.List.{IsList, fed}
use Rattle.run.specs.Answers.{tally_for, BurstOffered, BurstWaits, BurstEntered, EntersWithin}
use Rattle.run.proofs.Memory.{image}
use Rattle.run.proofs.List.{follows_on}
use Rattle.run.proofs.Lines.{entered_by, tally_is, clock_is}
use Rattle.run.proofs.Parts.{list_parts, book_parts}
use Rattle.run.proofs.Accepted.{accepted_total}

module _ (p : Plan) (words : List ℕ) (f : ℕ) (known : f < length p.flows) (k B : ℕ) (window : burst_window_of p f k ≡ Some B) where
  abbrev tail : List ℕ
  tail = drop (plan_size p) words

  -- where k lines of book b wait with a token for each, on a memory with its clock and entered count
  entered_on : (m : List ℕ) (b : Book) → clock_in m ≡ b.clock → (tally_for m f).entered ≡ entered_of b f → (now : Book) → Kept p now
      → (later : List ℕ) → later ≡ image p now tail → Bursts b now f k B → clock_in m + B ≤ clock_in later → BurstEntered m later now f k B
  entered_on m b clock entered now kept later same told past =
      let from = (burst_least p f k B window).from in
      let to : clock_in later ≡ now.clock = ap clock_in same ∙ clock_is p now tail f known in
      let count : (tally_for later f).entered ≡ entered_of now f = ap (λ (t : Tally). t.entered) (ap (λ w. tally_for w f) same ∙ tally_is p now tail f known) in
      let all : entered_of b f + k ≤ entered_of now f = told.entered (omega arith) in
      record {
        counted = omega arith;
        there = λ n above most. line_there n (omega arith) (omega (arith, total_split now f));
        each = λ l mem own above most.
            entered_by l.stage (omega arith) (omega arith) (told.each l mem own (omega arith) (omega arith));
      }
    where
      line_there : (n : ℕ) → 1 ≤ n → n ≤ total_of now f → (l : Line) × Mem l now.lines × (l.flow ≡ f) × (l.serial ≡ n)
      line_there n least most =
          let one = serial_once now kept.lawful.queued f n least most in
          let found = count_find (λ (l : Line). of_flow f l && eqb l.serial n) now.lines (omega arith) in
          let own = eqb_both found.0.flow f found.0.serial n found.2 in
          (found.0, found.1, own.0, own.1)

  module _ (b : Book) (kept : Kept p b) where
    abbrev m : List ℕ
    m = image p b tail

    was : tally_for m f ≡ tally_of b f
    was = tally_is p b tail f known

    pub waiting_entered : (more : List Item) → BurstWaits m f k → EntersWithin m f k B more (run_from p b (fed p more)).book
    waiting_entered more h l past =
        let told = bursts p b kept f known k B (burst_least p f k B window).free
        (omega (arith, h.0, ap (λ (t : Tally). t.waiting) was)) (omega (arith, h.1, ap (λ (t : Tally). t.bucket.tokens) was)) (fed p more) in
        entered_on m b (clock_is p b tail f known) (ap (λ (t : Tally). t.entered) was) _ (kept_from p (fed p more) b kept) _ (follows_on p words more b kept l)
        told past

    -- 02, U9: an empty queue, k tokens, and k offers before one step
    pub offered_entered : (offers more : List Item) → BurstOffered m offers f k
        → EntersWithin m f k B (offers ++ more) (run_from p b (fed p (offers ++ more))).book
    offered_entered offers more h l past =
        rw (book_parts p b offers more)
        (entered_on m pinged (clock_is p b tail f known ∙ sym still.clock) (ap (λ (t : Tally). t.entered) was ∙ sym still.entered) _
        (kept_from p (fed p more) pinged pinged_kept) _
        (follows_on p words (offers ++ more) b kept l ∙ ap (λ c. image p c tail) (book_parts p b offers more)) told past)
      where
        pinged : Book
        pinged = (run_from p b (fed p offers)).book

        pinged_kept : Kept p pinged
        pinged_kept = kept_from p (fed p offers) b kept

        listed : IsList m offers
        listed = (list_parts m offers more l).0

        still : Unstepped b pinged f
        still =
            unstepped p b kept f (fed p offers)
            (sym (ap clock_in (follows_on p words offers b kept listed) ∙ clock_is p pinged tail f known) ∙ h.no_step ∙ clock_is p b tail f known)

        waits : k ≤ waiting_of pinged f
        waits =
            let none : waiting_of b f ≡ 0 = sym (ap (λ (t : Tally). t.waiting) was) ∙ h.empty in
            omega (arith, none, h.accepted, accepted_total p f words offers b kept listed, total_split b f, total_split pinged f, still.entered)

        told : Bursts pinged (run_from p pinged (fed p more)).book f k B
        told =
            bursts p pinged pinged_kept f known k B (burst_least p f k B window).free waits
            (rw still.bucket (omega (arith, h.tokens, ap (λ (t : Tally). t.bucket.tokens) was))) (fed p more)
