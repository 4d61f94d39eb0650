-- Each call on state memory that holds the words of a book: its answer and all memory lent are the book's. Rests on Memory,
-- Offer, Set, Step, Steps and Delivery.
use mathlib.Core.List.{List, []}
use mathlib.Core.Path.{◌≡◌, refl, ap, ◌∙◌}
use Prim.Native.Nat.{ℕ, zero, suc}
use lib.ListN.{length}
use Rattle.flow.specs.declared.Offerer.{Offerer}
use Rattle.flow.specs.Plan.{Plan}
use Rattle.book.specs.Book.{Book, waiting_of}
use Rattle.router.specs.Delivery.{words_of}
use Rattle.router.specs.Reasons.{list_number}
use Rattle.flow.specs.Limits.{offer_number, step_number}
use Rattle.flow.proofs.Limits.{offer_passes}
use Rattle.book.specs.Feed.{Fed, judged, feed, refusal}
use Rattle.book.specs.Feed as Feed
use Rattle.book.proofs.Kept.{Kept, many_reply}
use Rattle.refusal.specs.Answer.{Answer, Done, Refused}
use Rattle.plan.specs.Refusals.{answer_by, refused_or}
use Rattle.plan.proofs.Refusals.{first_done}
use Rattle.plan.specs.Written.{plan_bytes}
use Rattle.state.specs.Words.{state_words}
use Rattle.state.specs.Outcome.{Outcome, outcome, Lent, lent, unless, unless_refused, over}
use Rattle.state.specs.Writing.{bytes_on, write_on}
use Rattle.cycle.specs.Offer.{offer_state, offer_on}
use Rattle.cycle.specs.Set.{with_first, offer_set_on}
use Rattle.cycle.specs.Step.{step_state, deliveries, step_on}
use Rattle.cycle.specs.Steps.{steps_on}
use Rattle.cycle.specs.Reasons.{Telling, telling, words_on, step_reasons_on}
use Rattle.cycle.proofs.Steps.{steps_refused}
use Rattle.recent.specs.declared.Recent.{Recent}
use Rattle.feed.specs.Feed.{planned_on, feed_on}
use Rattle.run.specs.View.{book_state}
use Rattle.run.specs.Calls.{with_reasons, just_words, just_records, whole, offer, offer_set, step, step_reasons, steps, write, recent, on_words}
use Rattle.run.specs.List.{filled}
use Rattle.run.proofs.View.{reasons_agree}
use Rattle.run.proofs.Step.{step_follows}
use Rattle.run.proofs.Delivery.{deliveries_follow}
use Rattle.run.proofs.Steps.{many_done}
use Rattle.run.proofs.Offer.{offer_number_lem, offer_follows}
use Rattle.run.proofs.Set.{book_answer, set_follows, set_answer_lem}
use Rattle.run.proofs.Memory.{image, state_is, plan_is, image_again, number}

module _ (p : Plan) (b : Book) (k : Kept p b) (tail : List ℕ) where
  abbrev w : List ℕ
  w = image p b tail

  -- both sides give a step and a reason list the same number
  step_number_lem : (room : ℕ) → let s = book_state p b in step_number s.plan room s.clock ≡ step_number p room b.clock
  unfolding book_state
  step_number_lem room = refl

  list_number_lem : (told : ℕ) → list_number (book_state p b).plan told ≡ list_number p told
  unfolding book_state
  list_number_lem told = refl

  -- and by that number do the same
  offer_by : (who : Offerer) (f n : ℕ) → offer_number who p f (waiting_of b f) ≡ n → let now : Fed = judged p b (Feed.offer who f) (answer_by n 0) in
      let o : Outcome Answer (List ℕ) = unless n w (outcome (Done 0) (over (state_words (offer_state (book_state p b) f)) w)) in
      outcome o.answer (whole o.memory (just_words []))
      ≡ outcome now.reply (whole (image p now.book tail) (filled now (just_words [])))
  unfolding unless
  offer_by who f zero e = rw (offer_follows p b f (offer_passes who p f _ e).0, image_again p b tail)
  offer_by who f (suc n) e = refl

  set_by : (flows : List ℕ) (a : Answer) → book_answer p b flows ≡ a → let now : Fed = judged p b (Feed.offer_set flows) a in
      let o : Outcome Answer (List ℕ) = unless_refused a w (outcome (Done 0) (over (state_words (with_first (book_state p b) flows (length flows))) w)) in
      outcome o.answer (whole o.memory (just_words []))
      ≡ outcome now.reply (whole (image p now.book tail) (filled now (just_words [])))
  unfolding unless_refused
  set_by flows (Done v) e = rw (set_follows p b flows (length flows) (first_done _ _ _ e), image_again p b tail)
  set_by flows (Refused n place) e = refl

  abbrev step_by : (delivery : List ℕ) → (n : ℕ) → Outcome Answer Lent
  step_by delivery n =
      let s = book_state p b in
      unless n (lent w delivery)
      (outcome (Done (length (deliveries s))) (lent (over (state_words (step_state s)) w) (over (words_of (deliveries s)) delivery)))

  step_by_lem : (delivery : List ℕ) (n : ℕ) → let now : Fed = judged p b (Feed.step (length delivery)) (answer_by n 0) in
      let o : Outcome Answer Lent = step_by delivery n in
      outcome o.answer (whole o.memory.state (just_words o.memory.other))
      ≡ outcome now.reply (whole (image p now.book tail) (filled now (just_words delivery)))
  unfolding unless
  step_by_lem delivery zero = rw (step_follows p b k, deliveries_follow p b k, image_again p b tail)
  step_by_lem delivery (suc n) = refl

  -- a step with reasons by the step's number and that of the list
  reasons_by : (delivery reasons : List ℕ) (n m : ℕ) → let before = telling (lent w delivery) reasons in
      let now : Fed = judged p b (Feed.step_reasons (length delivery) (length reasons)) (refused_or (answer_by n 0) (answer_by m 0)) in
      let o : Outcome Answer Lent = step_by delivery n in
      let t : Outcome Answer Telling =
      unless_refused o.answer before (unless m before (outcome o.answer (telling o.memory (over (words_on (book_state p b)) reasons)))) in
      outcome t.answer (whole t.memory.step.state (with_reasons t.memory.step.other t.memory.reasons))
      ≡ outcome now.reply (whole (image p now.book tail) (filled now (with_reasons delivery reasons)))
  unfolding unless unless_refused
  reasons_by delivery reasons zero zero =
      rw (step_follows p b k, deliveries_follow p b k, image_again p b tail, reasons_agree p b k.lawful.plan)
  reasons_by delivery reasons zero (suc m) = refl
  reasons_by delivery reasons (suc n) m = refl

  step_is : (delivery : List ℕ) → step_on w delivery ≡ step_by delivery (step_number p (length delivery) b.clock)
  unfolding step_on unless
  step_is delivery = rw (number p b tail k, state_is p b tail, step_number_lem (length delivery))

  pub offer_on_lem : (who : Offerer) (f : ℕ) → let now : Fed = feed p b (Feed.offer who f) in
      on_words (offer who f) w ≡ outcome now.reply (whole (image p now.book tail) (filled now (just_words [])))
  unfolding offer_on unless feed refusal
  offer_on_lem who f = rw (number p b tail k, state_is p b tail, offer_number_lem who p b f) (offer_by who f (offer_number who p f (waiting_of b f)) refl)

  pub set_on : (flows : List ℕ) → let now : Fed = feed p b (Feed.offer_set flows) in
      on_words (offer_set flows) w ≡ outcome now.reply (whole (image p now.book tail) (filled now (just_words [])))
  unfolding offer_set_on unless feed refusal
  set_on flows = rw (number p b tail k, state_is p b tail, set_answer_lem p b flows) (set_by flows (book_answer p b flows) refl)

  pub step_on_lem : (delivery : List ℕ) → let now : Fed = feed p b (Feed.step (length delivery)) in
      on_words (step delivery) w ≡ outcome now.reply (whole (image p now.book tail) (filled now (just_words delivery)))
  unfolding feed refusal
  step_on_lem delivery = rw (step_is delivery) (step_by_lem delivery (step_number p (length delivery) b.clock))

  pub reasons_on : (delivery reasons : List ℕ) → let now : Fed = feed p b (Feed.step_reasons (length delivery) (length reasons)) in
      on_words (step_reasons delivery reasons) w
      ≡ outcome now.reply (whole (image p now.book tail) (filled now (with_reasons delivery reasons)))
  unfolding step_reasons_on feed refusal
  reasons_on delivery reasons =
      rw (step_is delivery, state_is p b tail, list_number_lem (length reasons))
      (reasons_by delivery reasons (step_number p (length delivery) b.clock) (list_number p (length reasons)))

  -- many steps: by the number of a step at their start
  step_does : (delivery : List ℕ) (n : ℕ) → step_number p (length delivery) b.clock ≡ n → step_on w delivery ≡ step_by delivery n
  step_does delivery n e = step_is delivery ∙ rw e

  steps_by : (delivery : List ℕ) (cycles n : ℕ) → step_number p (length delivery) b.clock ≡ n
      → let now : Fed = judged p b (Feed.steps (length delivery) cycles) (answer_by n 0) in
      let o : Outcome Answer Lent = steps_on w delivery cycles in
      outcome o.answer (whole o.memory.state (just_words o.memory.other))
      ≡ outcome now.reply (whole (image p now.book tail) (filled now (just_words delivery)))
  unfolding unless
  steps_by delivery cycles zero e =
      let done = many_done p b k w (state_is p b tail) delivery cycles _ (ap (λ (o : Outcome Answer Lent). o.answer) (step_does delivery 0 e)) in
      let reply = many_reply p b (length delivery) cycles in
      rw (← done, image_again p b tail, reply.0, reply.1)
  steps_by delivery cycles (suc n) e = rw (steps_refused w delivery cycles (suc n) (step_does delivery (suc n) e))

  pub steps_on_lem : (delivery : List ℕ) (cycles : ℕ) → let now : Fed = feed p b (Feed.steps (length delivery) cycles) in
      on_words (steps delivery cycles) w ≡ outcome now.reply (whole (image p now.book tail) (filled now (just_words delivery)))
  unfolding feed refusal
  steps_on_lem delivery cycles = steps_by delivery cycles (step_number p (length delivery) b.clock) refl

  pub write_on_lem : (notes target : List ℕ) → let o : Outcome Answer (List ℕ) = bytes_on (plan_bytes notes p) target in
      on_words (write notes target) w ≡ outcome o.answer (whole w (just_words o.memory))
  unfolding write_on unless
  write_on_lem notes target = rw (number p b tail k, plan_is p b tail)

  pub recent_on : (deliveries : List ℕ) (last : ℕ) (records : List Recent) → let o : Outcome Answer (List Recent) = planned_on p deliveries last records in
      on_words (recent deliveries last records) w ≡ outcome o.answer (whole w (just_records o.memory))
  unfolding feed_on unless
  recent_on deliveries last records = rw (number p b tail k, plan_is p b tail)
