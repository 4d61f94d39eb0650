-- A whole list of calls on one state, after an accepted reset, and what it comes to: every answer, every word delivered and
-- every word of the state are the packet book's (01, The packet book; 02, U4, U6, U7; many steps in one call).
-- A later request's call is one case more of `role`, beside those in Calls; all else is said of any call.
use Rattle.std.specs.Prelude.{cond, List, [], ◌∷◌, ◌++◌, ◌≢◌, ◌≡◌, ℕ, ◌<◌, ltb, length, get_or, drop}
use Rattle.flow.specs.Plan.{Plan}
use Rattle.refusal.specs.Answer.{Answer, Done}
use Rattle.file.specs.Layout.{plan_of}
use Rattle.plan.specs.Written.{plan_bytes}
use Rattle.book.specs.Book.{Book, start}
use Rattle.router.specs.Delivery.{words_of}
use Rattle.book.specs.Feed.{Call, Fed, feed, run_from, run}
use Rattle.book.specs.Feed as Feed
use Rattle.book.specs.Promises.{Promises}
use Rattle.state.specs.Words.{state_words}
use Rattle.state.specs.Forms.{state_number}
use Rattle.state.specs.Outcome.{Outcome, outcome, refused, over}
use Rattle.state.specs.Layout.{plan_size}
use Rattle.state.specs.Reset.{reset_on}
use Rattle.state.specs.Writing.{bytes_on}
use Rattle.recent.specs.declared.Recent.{Recent}
use Rattle.feed.specs.Feed.{planned_on}
use Rattle.run.specs.View.{book_state}
use Rattle.run.specs.Calls.{Beside, with_reasons, just_words, just_records, Whole, Item, on_memory, memory_after}
use Rattle.run.specs.Calls.{Asked, offer, offer_set, step, step_reasons, steps, write, recent, reset}

-- a call's role in a list: it is fed to the book as this call; or it comes between, unfed, and plan and book tell its outcome; or it is
-- a reset. The other memory is what is lent to it beside the state memory
pub data Role : Type 0 where
  feeds : Call → (other : Beside) → Role
  between : (Plan → Book → Outcome Answer Beside) → (other : Beside) → Role
  resets : Role

-- the outcome of a call on one memory, among all that is lent
abbrev pub to_words : Outcome Answer (List ℕ) → Outcome Answer Beside
to_words o = outcome o.answer (just_words o.memory)

abbrev pub to_records : Outcome Answer (List Recent) → Outcome Answer Beside
to_records o = outcome o.answer (just_records o.memory)

abbrev pub role : Asked → Role
role (offer who flow) = feeds (Feed.offer who flow) (just_words [])
role (offer_set flows) = feeds (Feed.offer_set flows) (just_words [])
role (step delivery) = feeds (Feed.step (length delivery)) (just_words delivery)
role (step_reasons delivery reasons) = feeds (Feed.step_reasons (length delivery) (length reasons)) (with_reasons delivery reasons)
role (steps delivery cycles) = feeds (Feed.steps (length delivery) cycles) (just_words delivery)
role (write notes target) = between (λ p b. to_words (bytes_on (plan_bytes notes p) target)) (just_words target)
role (recent deliveries last records) = between (λ p b. to_records (planned_on p deliveries last records)) (just_records records)
role (reset file) = resets

-- a call on the state that is lent too little of it comes between, refused with 8 and with all as it was
abbrev pub too_little : Role → Role
too_little (feeds call other) = between (λ p b. refused 8 other) other
too_little (between tells other) = between (λ p b. refused 8 other) other
too_little resets = resets

abbrev pub role_in : Plan → Item → Role
role_in p i = cond (ltb i.lent_words (plan_size p)) (too_little (role i.asked)) (role i.asked)

-- the one condition on a list: it ends before the next accepted reset
abbrev pub IsList : (memory : List ℕ) → List Item → Type 0
IsList memory [] = Unit {0}
IsList memory (i ∷ is) =
    ((file : List ℕ) → i.asked ≡ reset file → (on_memory memory i).answer ≢ Done 0) × IsList (on_memory memory i).memory.state is

-- what the book is fed: who makes each offer and its flow, each set's flows, each step's lengths of delivery memory and reason list, and
-- how many steps are asked for in one call
abbrev pub fed_as : Role → List Call
fed_as (feeds call other) = call ∷ []
fed_as (between tells other) = []
fed_as resets = []

abbrev pub fed : Plan → List Item → List Call
fed p [] = []
fed p (i ∷ is) = fed_as (role_in p i) ++ fed p is

-- each call's answer, and its other memory afterwards
abbrev pub beside : Outcome Answer Whole → Outcome Answer Beside
beside o = outcome o.answer o.memory.other

abbrev pub outcomes : (memory : List ℕ) → List Item → List (Outcome Answer Beside)
outcomes memory [] = []
outcomes memory (i ∷ is) = beside (on_memory memory i) ∷ outcomes (on_memory memory i).memory.state is

-- the words of the book's state; those past its size are as lent
abbrev pub book_memory : Plan → Book → (words : List ℕ) → List ℕ
book_memory p b words = state_words (book_state p b) ++ drop (plan_size p) words

-- the other memory of a fed call: the words delivered in front of its words, those of the reasons in front of its list; the rest is as
-- lent
abbrev pub filled : Fed → Beside → Beside
filled now other =
    record {
      words = over (words_of now.delivered) other.words;
      reasons = over now.reasons other.reasons;
      records = other.records;
    }

-- what the book has for a call. A fed one: its answer, and what it fills the other memory with. A reset: what it answers on the book's
-- words
abbrev pub due : Plan → Book → (words : List ℕ) → Item → Role → Outcome Answer Beside
due p b words i (feeds call other) = outcome (feed p b call).reply (filled (feed p b call) other)
due p b words i (between tells other) = tells p b
due p b words i resets = beside (on_memory (book_memory p b words) i)

abbrev pub expected : Plan → Book → (words : List ℕ) → List Item → List (Outcome Answer Beside)
expected p b words [] = []
expected p b words (i ∷ is) = due p b words i (role_in p i) ∷ expected p (run_from p b (fed_as (role_in p i))).book words is

-- what a list comes to, from the state memory that an accepted reset of plan p left of the lent words
pub record Follows (p : Plan) (words memory : List ℕ) (is : List Item) : Type 0 where
  -- each call's answer and the words that the steps delivered, in order, are the book's
  pub answered : outcomes memory is ≡ expected p (start p) words is
  -- so is every word of the state; words past its size are as lent
  pub state : memory_after memory is ≡ book_memory p (run p (fed p is)).book words
  -- these words form a state: 9 never comes up, and 8 only for too little of them
  pub formed : state_number (memory_after memory is) ≡ 0
  -- the book keeps its promises
  pub promised : Promises p (run p (fed p is)).book (run p (fed p is)).delivered

-- for every plan file that reset accepts, every state memory of at least its size and every list of calls
abbrev pub OfEveryList : ((file words memory : List ℕ) → List Item → Type 0) → Type 0
OfEveryList Claim =
    (file words : List ℕ) → ((i : ℕ) → get_or file i 0 < 256) → (reset_on file words).answer ≡ Done 0
    → (is : List Item) → IsList (reset_on file words).memory is → Claim file words (reset_on file words).memory is

abbrev pub EveryList : Type 0
EveryList = OfEveryList (λ file. Follows (plan_of file))
