-- The calls of a list on one state: what each is lent, and what it does to the memory lent to it. The packet book isn't named here.
-- A later request's call is one case more of `Asked`, `on_words` and `offers_of`.
use Rattle.std.specs.Prelude.{List, [], ◌∷◌, ◌++◌, ℕ, ◌+◌, eqb, take, drop}
use Rattle.laws.specs.Count.{one, count}
use Rattle.flow.specs.declared.Offerer.{Offerer}
use Rattle.refusal.specs.Answer.{Answer, Done, Refused}
use Rattle.state.specs.Outcome.{Outcome, outcome, Lent}
use Rattle.state.specs.Reset.{reset_on}
use Rattle.state.specs.Writing.{write_on}
use Rattle.cycle.specs.Offer.{offer_on}
use Rattle.cycle.specs.Set.{offer_set_on}
use Rattle.cycle.specs.Step.{step_on}
use Rattle.cycle.specs.Reasons.{Telling, step_reasons_on}
use Rattle.cycle.specs.Steps.{steps_on}
use Rattle.recent.specs.declared.Recent.{Recent}
use Rattle.feed.specs.Feed.{feed_on}

-- what is lent to a call beside the state memory: a step's delivery memory or the target of writing; a reason list; records of
-- recent flights
pub record Beside : Type 0 where
  pub words : List ℕ
  pub reasons : List ℕ
  pub records : List Recent

abbrev pub with_reasons : (words reasons : List ℕ) → Beside
with_reasons words reasons = record { words = words; reasons = reasons; records = [] }

abbrev pub just_words : List ℕ → Beside
just_words words = with_reasons words []

abbrev pub just_records : List Recent → Beside
just_records records = record { words = []; reasons = []; records = records }

-- all memory lent to a call
pub record Whole : Type 0 where
  pub state : List ℕ
  pub other : Beside

abbrev pub whole : (state : List ℕ) → (other : Beside) → Whole
whole state other = record { state = state; other = other }

-- a call, with what is lent to it beside the state memory
pub data Asked : Type 0 where
  offer : Offerer → (flow : ℕ) → Asked
  offer_set : (flows : List ℕ) → Asked
  step : (delivery : List ℕ) → Asked
  step_reasons : (delivery reasons : List ℕ) → Asked
  steps : (delivery : List ℕ) → (cycles : ℕ) → Asked
  write : (notes target : List ℕ) → Asked
  recent : (deliveries : List ℕ) → (last : ℕ) → (records : List Recent) → Asked
  reset : (file : List ℕ) → Asked

-- what a call does to the words lent to it, by the definitions to which the contracts of the code set answer and memory equal
abbrev pub on_words : Asked → (words : List ℕ) → Outcome Answer Whole
on_words (offer who flow) words = outcome (offer_on who words flow).answer (whole (offer_on who words flow).memory (just_words []))
on_words (offer_set flows) words = outcome (offer_set_on words flows).answer (whole (offer_set_on words flows).memory (just_words []))
on_words (step delivery) words =
    outcome (step_on words delivery).answer (whole (step_on words delivery).memory.state (just_words (step_on words delivery).memory.other))
on_words (step_reasons delivery reasons) words =
    let o : Outcome Answer Telling = step_reasons_on words delivery reasons in
    outcome o.answer (whole o.memory.step.state (with_reasons o.memory.step.other o.memory.reasons))
on_words (steps delivery cycles) words =
    let o : Outcome Answer Lent = steps_on words delivery cycles in
    outcome o.answer (whole o.memory.state (just_words o.memory.other))
on_words (write notes target) words = outcome (write_on words notes target).answer (whole words (just_words (write_on words notes target).memory))
on_words (recent deliveries last records) words =
    outcome (feed_on words deliveries last records).answer (whole words (just_records (feed_on words deliveries last records).memory))
on_words (reset file) words = outcome (reset_on file words).answer (whole (reset_on file words).memory (just_words []))

-- an item of a list: a call, and how many words of the state memory it is lent
pub record Item : Type 0 where
  pub asked : Asked
  pub lent_words : ℕ

-- it is lent the first words of the state memory, or all where there are no more; the others stay
abbrev pub on_memory : (memory : List ℕ) → Item → Outcome Answer Whole
on_memory memory i =
    let o : Outcome Answer Whole = on_words i.asked (take i.lent_words memory) in
    outcome o.answer (whole (o.memory.state ++ drop i.lent_words memory) o.memory.other)

-- the state memory after a list: each call is lent it as the last one left it
abbrev pub memory_after : (memory : List ℕ) → List Item → List ℕ
memory_after memory [] = memory
memory_after memory (i ∷ is) = memory_after (on_memory memory i).memory.state is

-- how many packets of flow f a call offers: one by an offer of it, and as many as a set names it
abbrev pub offers_of : (f : ℕ) → Asked → ℕ
offers_of f (offer who flow) = one (eqb flow f)
offers_of f (offer_set flows) = count (λ g. eqb g f) flows
offers_of f (step delivery) = 0
offers_of f (step_reasons delivery reasons) = 0
offers_of f (steps delivery cycles) = 0
offers_of f (write notes target) = 0
offers_of f (recent deliveries last records) = 0
offers_of f (reset file) = 0

-- by its own answer it accepts all of them or none
abbrev pub if_accepted : Answer → ℕ → ℕ
if_accepted (Done v) n = n
if_accepted (Refused number place) n = 0

-- how many packets of flow f the calls of a list accept
abbrev pub accepted_of : (f : ℕ) → (memory : List ℕ) → List Item → ℕ
accepted_of f memory [] = 0
accepted_of f memory (i ∷ is) =
    if_accepted (on_memory memory i).answer (offers_of f i.asked) + accepted_of f (on_memory memory i).memory.state is
