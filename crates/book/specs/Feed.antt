-- The calls that the packet book is fed, its answers, and a list of calls from the start (01, The packet book; When a call says no;
-- 02, U4, U6, U7; many steps in one call).
use Rattle.std.specs.Prelude.{List, [], ◌∷◌, ◌++◌, ℕ, zero, suc, ◌-◌, ◌*◌, length}
use Rattle.laws.specs.Turns.{turns}
use Rattle.flow.specs.declared.Offerer.{Offerer}
use Rattle.flow.specs.Plan.{Plan}
use Rattle.flow.specs.Limits.{exit_size, used_room, offer_number, step_number}
use Rattle.refusal.specs.Answer.{Answer, Done, Refused}
use Rattle.plan.specs.Refusals.{answer_by, refused_or}
use Rattle.plan.specs.Set.{set_answer}
use Rattle.book.specs.Book.{Book, start, offered, offered_first, waiting_of}
use Rattle.router.specs.Delivery.{Delivery}
use Rattle.router.specs.Reasons.{reason_words, list_number}
use Rattle.book.specs.Cycle.{view, stepped, deliveries}

-- a call's kind and arguments: who offers and a flow, a list of flows, a length of delivery memory, that and a length of reason list, or
-- that and how many steps
pub data Call : Type 0 where
  offer : Offerer → (flow : ℕ) → Call
  offer_set : (flows : List ℕ) → Call
  step : (room : ℕ) → Call
  step_reasons : (room told : ℕ) → Call
  steps : (room cycles : ℕ) → Call

-- what the table says, judged by the plan and the book's clock and lines: the number with its place, or 0 for a call that isn't refused
unfoldable pub refusal : Plan → Book → Call → Answer
refusal p b (offer who f) = answer_by (offer_number who p f (waiting_of b f)) 0
refusal p b (offer_set flows) = set_answer p (λ n f. waiting_of (offered_first b flows n) f) flows
refusal p b (step room) = answer_by (step_number p room b.clock) 0
refusal p b (steps room cycles) = answer_by (step_number p room b.clock) 0
refusal p b (step_reasons room told) = refused_or (answer_by (step_number p room b.clock) 0) (answer_by (list_number p told) 0)

-- the book after a call, its answer, what it delivers, and the words of the reasons that it tells
pub record Fed : Type 0 where
  pub book : Book
  pub reply : Answer
  pub delivered : List Delivery
  pub reasons : List ℕ

-- packets accepted, or a step, with the words of reasons that it tells
abbrev pub added : Book → Fed
added b = record { book = b; reply = Done 0; delivered = []; reasons = [] }

abbrev pub ran : Plan → Book → (reasons : List ℕ) → Fed
ran p b reasons = record { book = stepped p b; reply = Done (length (deliveries p b)); delivered = deliveries p b; reasons = reasons }

-- the steps before, and one more, by the number of its refusal: it delivers behind theirs, and one that the table refuses changes nothing
abbrev pub advanced : Plan → (number : ℕ) → Fed → Fed
advanced p zero before =
    let all : List Delivery = before.delivered ++ deliveries p before.book in
    record { book = stepped p before.book; reply = Done (length all); delivered = all; reasons = [] }
advanced p (suc n) before = before

-- it is judged by what the exits before leave of so many words
unfoldable pub advance : Plan → (room : ℕ) → Fed → Fed
advance p room before = advanced p (step_number p (room - exit_size * length before.delivered) before.book.clock) before

-- that many, one after the other, with nothing delivered before
abbrev pub ran_many : Plan → Book → (room cycles : ℕ) → Fed
ran_many p b room cycles = turns cycles (λ i. advance p (used_room room)) (added b)

-- a call that isn't refused. The reasons are judged on the lines and buckets before the step
abbrev pub accepted : Plan → Book → Call → Fed
accepted p b (offer who f) = added (offered b f)
accepted p b (offer_set flows) = added (offered_first b flows (length flows))
accepted p b (step room) = ran p b []
accepted p b (steps room cycles) = ran_many p b room cycles
accepted p b (step_reasons room told) = ran p b (reason_words p (view p b))

-- a call that the table refuses gets that number and place and changes nothing
abbrev pub judged : Plan → Book → Call → Answer → Fed
judged p b c (Done v) = accepted p b c
judged p b c (Refused number place) = record { book = b; reply = Refused number place; delivered = []; reasons = [] }

unfoldable pub feed : Plan → Book → Call → Fed
feed p b c = judged p b c (refusal p b c)

-- the book after a list of calls, each call's answer, and all that was delivered, in order
pub record Run : Type 0 where
  pub book : Book
  pub replies : List Answer
  pub delivered : List Delivery

abbrev pub run_from : Plan → Book → List Call → Run
run_from p b [] = record { book = b; replies = []; delivered = [] }
run_from p b (c ∷ cs) =
    let now : Fed = feed p b c in
    let rest : Run = run_from p now.book cs in
    record { book = rest.book; replies = now.reply ∷ rest.replies; delivered = now.delivered ++ rest.delivered }

abbrev pub run : Plan → List Call → Run
run p cs = run_from p (start p) cs
