-- The theorem on whole lists: every answer, every word delivered and every word of the state are the packet book's, and the
-- book keeps its promises. Rests on Calls, Reset and the book's promises.
use mathlib.Core.List.{List, [], ◌∷◌, ◌++◌, map, append_assoc}
use mathlib.Core.Logic.{◌≢◌, inl, inr}
use mathlib.Core.Path.{◌≡◌, refl, sym, ap, subst, ◌∙◌}
use Prim.Native.Nat.{ℕ, ◌-◌, ◌*◌, ◌≤◌, ◌<◌}
use borrow.Author.Tests.{ltb-true, ltb-false}
use lib.Dec.{ltb}
use lib.ListN.{length, get_or, take, drop, take-append-drop}
use lib.Seq.{take_at}
use Rattle.laws.proofs.Cases.{test}
use Rattle.flow.specs.Plan.{Plan}
use Rattle.flow.specs.Ranges.{PlanOk}
use Rattle.flow.specs.Limits.{exit_size}
use Rattle.refusal.specs.Answer.{Answer, Done, Refused}
use Rattle.file.specs.Layout.{plan_of}
use Rattle.plan.proofs.Ranges.{plan_ok}
use Rattle.book.specs.Book.{Book, start}
use Rattle.router.specs.Delivery.{words_of}
use Rattle.router.proofs.Delivery.{words_append, words_length}
use Rattle.book.specs.Cycle.{deliveries}
use Rattle.book.specs.Feed.{Call, Fed, ran_many, feed, Run, run_from, run}
use Rattle.book.specs.Feed as Feed
use Rattle.book.proofs.Kept.{Kept, many_reply, feed_cases, kept_start, kept_feed, kept_run}
use Rattle.book.proofs.Promises.{promises}
use Rattle.state.specs.State.{reset_state}
use Rattle.state.specs.Words.{state_words}
use Rattle.state.specs.Forms.{state_number}
use Rattle.state.specs.Outcome.{Outcome, outcome, unless, unless_refused, over}
use Rattle.state.specs.Layout.{plan_size}
use Rattle.state.specs.Reset.{reset_on}
use Rattle.state.specs.Writing.{write_on}
use Rattle.state.proofs.Words.{length_words}
use Rattle.reset.proofs.Leaves.{reset_done, leaves}
use Rattle.cycle.specs.Offer.{offer_on}
use Rattle.cycle.specs.Set.{offer_set_on}
use Rattle.cycle.specs.Step.{step_on}
use Rattle.cycle.specs.Reasons.{step_reasons_on}
use Rattle.cycle.specs.Steps.{steps_on}
use Rattle.feed.specs.Feed.{feed_on}
use Rattle.run.specs.Calls.{Beside, just_words, Whole, whole, Asked, offer, offer_set, step, step_reasons, steps, write, recent, reset, on_words}
use Rattle.run.specs.Calls.{Item, on_memory, memory_after}
use Rattle.run.specs.List.{Role, feeds, between, resets, role, too_little, role_in}
use Rattle.run.specs.List.{IsList, fed_as, fed, beside, outcomes, book_memory, due, expected}
use Rattle.run.specs.List.{Follows, EveryList}
use Rattle.run.specs.View.{book_state}
use Rattle.run.proofs.Offer.{start_follows}
use Rattle.run.proofs.Memory.{image, image_part, image_rest, number, short}
use Rattle.run.proofs.Calls.{offer_on_lem, set_on, step_on_lem, reasons_on, steps_on_lem, write_on_lem, recent_on}
use Rattle.run.proofs.Reset.{reset_refused}

-- the outcomes of the fed calls, in order
abbrev fed_outcomes : Plan → (memory : List ℕ) → List Item → List (Outcome Answer Beside)
fed_outcomes p memory [] = []
fed_outcomes p memory (i ∷ is) =
    map (λ call. beside (on_memory memory i)) (fed_as (role_in p i)) ++ fed_outcomes p (on_memory memory i).memory.state is

-- five words for each exit that a call answers
abbrev word_count : Answer → ℕ
word_count (Done count) = exit_size * count
word_count (Refused n place) = 0

abbrev delivered_by : List (Outcome Answer Beside) → List ℕ
delivered_by [] = []
delivered_by (o ∷ os) = take (word_count o.answer) o.memory.words ++ delivered_by os

abbrev answers : List (Outcome Answer Beside) → List Answer
answers os = map (λ (o : Outcome Answer Beside). o.answer) os

-- the words that a fed call's answer counts are those that the book delivers
fed_words : (p : Plan) (b : Book) (c : Call) (other : List ℕ) → let now : Fed = feed p b c in
    take (word_count now.reply) (over (words_of now.delivered) other) ≡ words_of now.delivered
fed_words p b c other =
    feed_cases p b
    (λ (now : Fed). take (word_count now.reply) (over (words_of now.delivered) other) ≡ words_of now.delivered)
    (λ n place. refl) (λ who f room. refl) (λ flows rooms. refl)
    (λ reasons early. take_at (words_of (deliveries p b)) _ (5 * length (deliveries p b)) (words_length (deliveries p b)))
    (λ room cycles. many room cycles)
    c
  where
    many : (room cycles : ℕ) → let now : Fed = ran_many p b room cycles in
        take (word_count now.reply) (over (words_of now.delivered) other) ≡ words_of now.delivered
    many room cycles =
        rw (many_reply p b room cycles).0 (take_at (words_of (ran_many p b room cycles).delivered) _ _ (words_length (ran_many p b room cycles).delivered))

module _ (p : Plan) (words : List ℕ) where
  abbrev tail : List ℕ
  tail = drop (plan_size p) words

  -- a call lent the first words of a state memory, which leaves them as they were
  unchanged : (memory : List ℕ) (i : Item) (a : Answer) (other : Beside) → let part = take i.lent_words memory in
      on_words i.asked part ≡ outcome a (whole part other) → on_memory memory i ≡ outcome a (whole memory other)
  unchanged memory i a other e = rw (e, take-append-drop i.lent_words memory)

  module _ (b : Book) (k : Kept p b) where
    abbrev m : List ℕ
    m = image p b tail

    -- what an item does in this role: it leaves what is due, and the words of the book that it was fed to
    abbrev pub Does : Item → Role → Type 0
    Does i r =
        let o : Outcome Answer Beside = due p b words i r in
        on_memory m i ≡ outcome o.answer (whole (image p (run_from p b (fed_as r)).book tail) o.memory)

    -- a call lent the whole state, and words behind it or not
    enough : (b' : Book) (i : Item) (a : Answer) (other : Beside) → plan_size p ≤ i.lent_words
        → ((tail : List ℕ) → on_words i.asked (image p b tail) ≡ outcome a (whole (image p b' tail) other))
        → on_memory m i ≡ outcome a (whole (image p b' tail) other)
    enough b' i a other h does =
        let n = i.lent_words - plan_size p in
        rw (
          image_part p b tail i.lent_words h,
          image_rest p b tail i.lent_words h,
          does (take n tail),
          append_assoc (state_words (book_state p b')) (take n tail) (drop n tail),
          take-append-drop n tail,
        )

    module _ (n : ℕ) where
      abbrev item : Asked → Item
      item c = record { asked = c; lent_words = n }

      -- a call that is no accepted reset
      abbrev May : Asked → Type 0
      May c = (file : List ℕ) → c ≡ reset file → (on_memory m (item c)).answer ≢ Done 0

      does_reset : (file : List ℕ) → May (reset file) → Does (item (reset file)) resets
      does_reset file may =
          let part = take n m in
          unchanged m (item (reset file)) _ _
          (ap (λ w. outcome (reset_on file part).answer (whole w (just_words []))) (reset_refused file part (may file refl)))

      does_enough : (c : Asked) → plan_size p ≤ n → May c → Does (item c) (role c)
      does_enough (offer who f) h may = enough (feed p b (Feed.offer who f)).book (item (offer who f)) _ _ h (λ t. offer_on_lem p b k t who f)
      does_enough (offer_set flows) h may =
          enough (feed p b (Feed.offer_set flows)).book (item (offer_set flows)) _ _ h (λ t. set_on p b k t flows)
      does_enough (step delivery) h may =
          enough (feed p b (Feed.step (length delivery))).book (item (step delivery)) _ _ h (λ t. step_on_lem p b k t delivery)
      does_enough (step_reasons delivery reasons) h may =
          enough (feed p b (Feed.step_reasons (length delivery) (length reasons))).book (item (step_reasons delivery reasons)) _ _ h
          (λ t. reasons_on p b k t delivery reasons)
      does_enough (steps delivery cycles) h may =
          enough (feed p b (Feed.steps (length delivery) cycles)).book (item (steps delivery cycles)) _ _ h
          (λ t. steps_on_lem p b k t delivery cycles)
      does_enough (write notes target) h may = enough b (item (write notes target)) _ _ h (λ t. write_on_lem p b k t notes target)
      does_enough (recent deliveries last records) h may =
          enough b (item (recent deliveries last records)) _ _ h (λ t. recent_on p b k t deliveries last records)
      does_enough (reset file) h may = does_reset file may

      does_little : (c : Asked) → n < plan_size p → May c → Does (item c) (too_little (role c))
      unfolding offer_on offer_set_on step_on step_reasons_on steps_on write_on feed_on unless unless_refused
      does_little (offer who f) few may = unchanged m (item (offer who f)) _ _ (rw (short p b tail k n few))
      does_little (offer_set flows) few may = unchanged m (item (offer_set flows)) _ _ (rw (short p b tail k n few))
      does_little (step delivery) few may = unchanged m (item (step delivery)) _ _ (rw (short p b tail k n few))
      does_little (step_reasons delivery reasons) few may = unchanged m (item (step_reasons delivery reasons)) _ _ (rw (short p b tail k n few))
      does_little (steps delivery cycles) few may = unchanged m (item (steps delivery cycles)) _ _ (rw (short p b tail k n few))
      does_little (write notes target) few may = unchanged m (item (write notes target)) _ _ (rw (short p b tail k n few))
      does_little (recent deliveries last records) few may = unchanged m (item (recent deliveries last records)) _ _ (rw (short p b tail k n few))
      does_little (reset file) few may = does_reset file may

    pub does : (i : Item) → May i.lent_words i.asked → Does i (role_in p i)
    does i may =
        elim (test (ltb i.lent_words (plan_size p))) [
          | inl few ↦ rw few (does_little i.lent_words i.asked (ltb-true _ _ few) may)
          | inr all ↦ rw all (does_enough i.lent_words i.asked (ltb-false _ _ all) may)
        ]

    pub keeps : (r : Role) → Kept p (run_from p b (fed_as r)).book
    keeps (feeds call other) = kept_feed p b k call
    keeps (between tells other) = k
    keeps resets = k

  -- outcomes, those of the fed calls and a state memory, beside what a run of the book has
  record Right (outs due fed : List (Outcome Answer Beside)) (memory : List ℕ) (r : Run) : Type 0 where
    answered : outs ≡ due
    replied : answers fed ≡ r.replies
    delivered : delivered_by fed ≡ words_of r.delivered
    state : memory ≡ image p r.book tail

  -- a call in any role, then the rest
  then : (b : Book) (i : Item) (r : Role) {outs later fed : List (Outcome Answer Beside)} {memory : List ℕ} (cs : List Call)
      → Right outs later fed memory (run_from p (run_from p b (fed_as r)).book cs)
      → let o = due p b words i r in Right (o ∷ outs) (o ∷ later) (map (λ call. o) (fed_as r) ++ fed) memory (run_from p b (fed_as r ++ cs))
  then b i (feeds call other) cs g =
      record {
        answered = ap (λ rest. due p b words i (feeds call other) ∷ rest) g.answered;
        replied = ap (λ rest. (feed p b call).reply ∷ rest) g.replied;
        delivered = (λ j. fed_words p b call other.words j ++ g.delivered j) ∙ sym (words_append (feed p b call).delivered _);
        state = g.state;
      }
  then b i (between tells other) cs g =
      record { answered = ap (λ rest. tells p b ∷ rest) g.answered; replied = g.replied; delivered = g.delivered; state = g.state }
  then b i resets cs g =
      record { answered = ap (λ rest. due p b words i resets ∷ rest) g.answered; replied = g.replied; delivered = g.delivered; state = g.state }

  abbrev Goes : Book → (memory : List ℕ) → List Item → Type 0
  Goes b memory is = Right (outcomes memory is) (expected p b words is) (fed_outcomes p memory is) (memory_after memory is) (run_from p b (fed p is))

  follow : (is : List Item) (b : Book) → Kept p b → IsList (image p b tail) is → Goes b (image p b tail) is
  follow [] b k l = record { answered = refl; replied = refl; delivered = refl; state = refl }
  follow (i ∷ is) b k l =
      let r = role_in p i in
      let d = does b k i l.0 in
      let later = follow is (run_from p b (fed_as r)).book (keeps b k r) (subst (λ (o : Outcome Answer Whole). IsList o.memory.state is) d l.1) in
      subst (λ (o : Outcome Answer Whole). Right (beside o ∷ outcomes o.memory.state is) (expected p b words (i ∷ is))
      (map (λ call. beside o) (fed_as r) ++ fed_outcomes p o.memory.state is) (memory_after o.memory.state is) (run_from p b (fed p (i ∷ is))))
      (sym d) (then b i r (fed p is) later)

  -- the state memory after a list is that of the book
  pub follows_on : (is : List Item) (b : Book) → Kept p b → IsList (image p b tail) is
      → memory_after (image p b tail) is ≡ image p (run_from p b (fed p is)).book tail
  follows_on is b k l = (follow is b k l).state

module _ (file words : List ℕ) (bytes : (i : ℕ) → get_or file i 0 < 256) (done : (reset_on file words).answer ≡ Done 0) where
  abbrev plan : Plan
  plan = plan_of file

  fits : PlanOk plan
  fits = let a = reset_done file words done in plan_ok file a.value a.file_done bytes

  begun : (reset_on file words).memory ≡ book_memory plan (start plan) words
  begun =
      leaves file words bytes done ∙ (λ i. state_words (sym (start_follows plan) i) ++ drop (length_words (reset_state plan) i) words)

  goes : (is : List Item) → IsList (reset_on file words).memory is → Goes plan words (start plan) (reset_on file words).memory is
  goes is l =
      subst (λ m. Goes plan words (start plan) m is) (sym begun)
      (follow plan words is (start plan) (kept_start plan fits) (subst (λ m. IsList m is) begun l))

  -- the fed calls' answers, and the words that the steps delivered, one after the other, are those of the book's run
  pub in_order : (is : List Item) → IsList (reset_on file words).memory is → let outs = fed_outcomes plan (reset_on file words).memory is in
      (answers outs ≡ (run plan (fed plan is)).replies) × (delivered_by outs ≡ words_of (run plan (fed plan is)).delivered)
  in_order is l = ((goes is l).replied, (goes is l).delivered)

  follows : (is : List Item) → IsList (reset_on file words).memory is → Follows plan words (reset_on file words).memory is
  follows is l =
      record {
        answered = (goes is l).answered;
        state = (goes is l).state;
        formed =
            ap state_number (goes is l).state
            ∙ number plan (run plan (fed plan is)).book (drop (plan_size plan) words) (kept_run plan fits (fed plan is));
        promised = promises plan fits (fed plan is);
      }

-- for every plan file that reset accepts, every state memory of at least its size and every list of calls
pub every_list : EveryList
every_list = follows
