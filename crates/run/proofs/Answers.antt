-- The calls' own answers are borne out by the packet book after every list. Rests on List, the book's promises and the laws of the
-- calls on a plan file.
use mathlib.Core.Bool.{true, false, false≢true}
use mathlib.Core.List.{List, [], ◌∷◌, ◌++◌, Memᴰ as Mem}
use mathlib.Core.Logic.{inl, inr}
use mathlib.Core.Path.{◌≡◌, refl, sym, ap, subst, ◌∙◌}
use Prim.Native.Nat.{ℕ, ◌+◌, ◌-◌, ◌≤◌, ◌<◌}
use native.Mathlib.Omega.{arith}
use lib.Dec.{ltb}
use lib.ListN.{length, get_or, drop}
use Rattle.laws.specs.Bounded.{tabulate}
use Rattle.laws.proofs.Cases.{test}
use Rattle.flow.specs.declared.Flow.{Flow}
use Rattle.flow.specs.declared.Offerer.{Offerer}
use Rattle.flow.specs.declared.Offerer.TheVariants.{Sonar}
use Rattle.flow.specs.Plan.{Plan, flow_at}
use Rattle.flow.proofs.Limits.{offer_passes}
use Rattle.refusal.specs.Answer.{Answer, Done, Refused}
use Rattle.plan.specs.Set.{set_number}
use Rattle.file.specs.Layout.{plan_of}
use Rattle.plan.proofs.Refusals.{refused_done, answer_done, first_done}
use Rattle.plan.proofs.Ranges.{Bytes, plan_ok}
use Rattle.std.specs.Prelude.{Some}
use Rattle.window.specs.Window.{burst_window_of}
use Rattle.flight.specs.Flight.{flight, flight_of, flight_bound, most_deflections}
use Rattle.flight.proofs.Flight.{flight_of_lem, flight_bounded}
use Rattle.bounds.specs.Bounds.{window_answer, burst_answer}
use Rattle.bounds.proofs.Told.{window_told, burst_told, flight_told}
use Rattle.book.specs.Line.{Line, Stage, waiting, placed, left, is_waiting, is_left, entry_of, exit_of}
use Rattle.book.specs.Book.{Book, start, waiting_of}
use Rattle.book.specs.Feed.{Call, refusal, Fed, accepted, judged, feed, run_from}
use Rattle.book.specs.Feed as Feed
use Rattle.book.specs.Promises.{deadline, Flies}
use Rattle.book.proofs.Kept.{Kept, kept_run}
use Rattle.state.specs.Read.{plan_in}
use Rattle.state.specs.Outcome.{Outcome}
use Rattle.state.specs.Layout.{plan_size}
use Rattle.state.specs.Reset.{reset_on}
use Rattle.reset.proofs.Leaves.{reset_done}
use Rattle.writing.proofs.Back.{file_back}
use Rattle.run.specs.Calls.{just_words, Whole, Asked, offer, offer_set, reset, Item, on_memory, memory_after}
use Rattle.run.specs.List.{feeds, role, role_in, IsList, fed_as, fed, due, Follows}
use Rattle.run.specs.Answers.{book_after, HasRun, EnteredBy, accepted_line, entry_line, BurstOffered, BurstWaits, EntersWithin, EveryAnswer}
use Rattle.run.proofs.Memory.{image, plan_is}
use Rattle.run.proofs.List.{does, every_list}
use Rattle.run.proofs.Lines.{entered_by, line_read, lines_read}
use Rattle.run.proofs.Parts.{book_parts}
use Rattle.run.proofs.Bursts.{waiting_entered, offered_entered}

-- a line's flight is within the bound, and once the step of its last cycle has run, it has left
module _ (p : Plan) (f : Flow) (D clock : ℕ) (most : D ≤ most_deflections p f) where
  within : flight_of p.sx p.sy f D ≤ flight_bound p f
  within = flight_bounded p f D most

  flight_within : (s : Stage) → Flies p f D clock s → is_left s ≡ true → flight (entry_of s) (exit_of s) ≤ flight_bound p f
  flight_within waiting h gone = absurd (false≢true gone)
  flight_within (placed e at) h gone = absurd (false≢true gone)
  flight_within (left e t x y) h gone = rw (h.2, flight_of_lem p.sx p.sy f D e) within

  left_by : (s : Stage) → Flies p f D clock s → is_waiting s ≡ false → entry_of s + flight_bound p f - 2 < clock → is_left s ≡ true
  left_by waiting h entered past = absurd (false≢true (sym entered))
  left_by (placed e at) h entered past = absurd (omega (arith, h.2, within))
  left_by (left e t x y) h entered past = refl

-- neither an offer nor a set is a reset
offer_reset : (who : Offerer) (f : ℕ) (file : List ℕ) → offer who f ≡ reset file → ⊥
offer_reset who f file e = let z : ◌≡◌ {A = ℕ} 0 1 = cc in omega arith

set_reset : (flows file : List ℕ) → offer_set flows ≡ reset file → ⊥
set_reset flows file e = let z : ◌≡◌ {A = ℕ} 0 1 = cc in omega arith

-- a call that is answered by a value is not refused, and does what it does then
feed_passes : (p : Plan) (b : Book) (c : Call) (v : ℕ) → (feed p b c).reply ≡ Done v → (w : ℕ) × (refusal p b c ≡ Done w) × (feed p b c ≡ accepted p b c)
unfolding feed
feed_passes p b c v e = by (refusal p b c) refl e
  where
    by : (a : Answer) → refusal p b c ≡ a → (judged p b c a).reply ≡ Done v
        → (w : ℕ) × (refusal p b c ≡ Done w) × (judged p b c (refusal p b c) ≡ accepted p b c)
    by (Done w) q d = (w, q, ap (judged p b c) q)
    by (Refused n place) q d = absurd (refused_done n place v d)

module _ (file words : List ℕ) (bytes : Bytes file) (done : (reset_on file words).answer ≡ Done 0) (is : List Item)
    (l : IsList (reset_on file words).memory is) where
  abbrev p : Plan
  p = plan_of file

  abbrev b : Book
  b = book_after file is

  abbrev tail : List ℕ
  tail = drop (plan_size p) words

  abbrev memory : List ℕ
  memory = memory_after (reset_on file words).memory is

  follows : Follows p words (reset_on file words).memory is
  follows = every_list file words bytes done is l

  kept : Kept p b
  kept = let a = reset_done file words done in kept_run p (plan_ok file a.value a.file_done bytes) (fed p is)

  plan_kept : plan_in memory ≡ p
  plan_kept = rw follows.state (plan_is p b tail)

  -- bursts on the words of the book are bursts on this memory
  module _ (f k B : ℕ) (e : burst_answer file f k ≡ Done B) where
    on_memory_lem : (Ready : List ℕ → Type 0) (more : List Item)
        → (Ready (image p b tail) → EntersWithin (image p b tail) f k B more (run_from p b (fed p more)).book)
        → Ready memory → EntersWithin memory f k B more (book_after file (is ++ more))
    on_memory_lem Ready more enters =
        subst (λ (m : List ℕ). Ready m → EntersWithin m f k B more (book_after file (is ++ more))) (sym follows.state)
        (rw (book_parts p (start p) is more) enters)

    known : f < length p.flows
    known = (burst_told file f k B e).0

    window : burst_window_of p f k ≡ Some B
    window = (burst_told file f k B e).1

    offered_enter : (offers more : List Item) → BurstOffered memory offers f k
        → EntersWithin memory f k B (offers ++ more) (book_after file (is ++ (offers ++ more)))
    offered_enter offers more =
        on_memory_lem (λ m. BurstOffered m offers f k) (offers ++ more) (offered_entered p words f known k B window b kept offers more)

    waits_enter : (more : List Item) → BurstWaits memory f k → EntersWithin memory f k B more (book_after file (is ++ more))
    waits_enter more = on_memory_lem (λ m. BurstWaits m f k) more (waiting_entered p words f known k B window b kept more)

  module _ (x : Line) (m : Mem x b.lines) where
    abbrev φ : Flow
    φ = flow_at p x.flow

    entered : (T cycle : ℕ) → window_answer file x.flow ≡ Done T → deadline p x T ≤ cycle → HasRun b cycle → EnteredBy cycle x
    entered T cycle e later past = entered_by x.stage later past (follows.promised.enters_by x m T (window_told file x.flow T e))

    flown : is_left x.stage ≡ true → flight (entry_of x.stage) (exit_of x.stage) ≤ flight_bound p φ
    flown = flight_within p φ x.D b.clock (follows.promised.deflections_turning x m) x.stage (follows.promised.flies x m)

    gone : is_waiting x.stage ≡ false → HasRun b (entry_of x.stage + flight_bound p φ - 2) → is_left x.stage ≡ true
    gone = left_by p φ x.D b.clock (follows.promised.deflections_turning x m) x.stage (follows.promised.flies x m)

  -- a call fed to the book, which is answered by 0
  module _ (c : Call) (i : Item) (feeds_it : role i.asked ≡ feeds c (just_words [])) (no_reset : (g : List ℕ) → i.asked ≡ reset g → ⊥)
      (e : (on_memory memory i).answer ≡ Done 0) where
    was_fed : (role_in p i ≡ role i.asked) × ((feed p b c).reply ≡ Done 0)
    was_fed =
        let does_it = does p words b kept i (λ g r. absurd (no_reset g r)) in
        let due_is : (due p b words i (role_in p i)).answer ≡ Done 0 =
        sym (ap (λ (o : Outcome Answer Whole). o.answer) does_it) ∙ ap (λ m. (on_memory m i).answer) (sym follows.state) ∙ e in
        elim (test (ltb i.lent_words (plan_size p))) [
          | inl few ↦ absurd (refused_done _ _ _ (rw (few, feeds_it) at due_is))
          | inr all ↦ (rw all, rw (all, feeds_it) at due_is)
        ]

    -- was not refused, and is the one call more
    free : (w : ℕ) × (refusal p b c ≡ Done w)
    free = let h = feed_passes p b c 0 was_fed.1 in (h.0, h.1)

    adds : book_after file (is ++ (i ∷ [])) ≡ (accepted p b c).book
    adds =
        book_parts p (start p) is (i ∷ [])
        ∙ ap (λ r. (run_from p b (fed_as r ++ [])).book) (was_fed.0 ∙ feeds_it)
        ∙ ap (λ (now : Fed). now.book) (feed_passes p b c 0 was_fed.1).2

  module _ (n : ℕ) where
    abbrev item : Asked → Item
    item asked = record { asked = asked; lent_words = n }

    -- so the book has the line of an offer, and no other one more
    numbers : (who : Offerer) (f : ℕ) → (on_memory memory (item (offer who f))).answer ≡ Done 0
        → (book_after file (is ++ (item (offer who f) ∷ []))).lines ≡ b.lines ++ (accepted_line memory f ∷ [])
    unfolding refusal
    numbers who f e =
        let none : (g : List ℕ) → offer who f ≡ reset g → ⊥ = λ g r. offer_reset who f g r in
        let passed = free (Feed.offer who f) (item (offer who f)) refl none e in
        let known = (offer_passes who p f (waiting_of b f) (answer_done _ _ _ passed.1)).0 in
        let line = ap (λ m. accepted_line m f) follows.state ∙ line_read p b tail f known in
        ap (λ (c : Book). c.lines) (adds (Feed.offer who f) (item (offer who f)) refl none e) ∙ ap (λ l. b.lines ++ (l ∷ [])) (sym line)

    -- and those of a set
    set_numbers : (flows : List ℕ) → (on_memory memory (item (offer_set flows))).answer ≡ Done 0
        → (book_after file (is ++ (item (offer_set flows) ∷ []))).lines ≡ b.lines ++ tabulate (length flows) (entry_line memory flows)
    unfolding refusal set_number
    set_numbers flows e =
        let none : (g : List ℕ) → offer_set flows ≡ reset g → ⊥ = λ g r. set_reset flows g r in
        let passed = free (Feed.offer_set flows) (item (offer_set flows)) refl none e in
        let known : (k : ℕ) → k < length flows → get_or flows k 0 < length p.flows = λ k l. (offer_passes Sonar p _ _ (first_done _ _ _ passed.1 k l)).0 in
        ap (λ (c : Book). c.lines) (adds (Feed.offer_set flows) (item (offer_set flows)) refl none e)
        ∙ lines_read b flows p tail known
        ∙ ap (λ m. b.lines ++ tabulate (length flows) (entry_line m flows)) (sym follows.state)

-- for every plan file that reset accepts, every state memory of at least its size and every list of calls
pub every_answer : EveryAnswer
every_answer file words bytes done is l =
    let h = follows file words bytes done is l in
    let a = reset_done file words done in
    record {
      enters_by_window = λ x m T e past. entered file words bytes done is l x m T _ e (omega arith) past;
      lone_enters = λ x m T e lone past. entered file words bytes done is l x m T _ e (rw lone (omega arith)) past;
      burst_enters = λ f k B e. offered_enter file words bytes done is l f k B e;
      waiting_enter = λ f k B e. waits_enter file words bytes done is l f k B e;
      flies_within = λ x m B e gone. omega (arith, flight_told file x.flow B e, flown file words bytes done is l x m gone);
      leaves_by = λ x m B e in_flight past. gone file words bytes done is l x m in_flight (omega (arith, flight_told file x.flow B e));
      gets_serial = λ who f n. numbers file words bytes done is l n who f;
      get_serials = λ flows n. set_numbers file words bytes done is l n flows;
      writes_back = λ target room. file_back file _ target a.value bytes a.file_done h.formed (plan_kept file words bytes done is l) room;
    }
