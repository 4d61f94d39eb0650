-- What the calls' own answers tell of a whole list from an accepted file's reset: a planner reads windows, burst windows and flight bounds off
-- the calls, and the packet book bears them out (01, Windows; State memory; The packet book; 02, U3, U4, U6, U8, U9).
use Rattle.std.specs.Prelude.{true, false, ◌≡◌, ℕ, ◌+◌, ◌-◌, ◌≤◌, ◌<◌, eqb, length, get_or, take}
use mathlib.Core.List.{List, [], ◌∷◌, ◌++◌, Memᴰ as Mem}
use Rattle.laws.specs.Bounded.{tabulate}
use Rattle.laws.specs.Count.{count}
use Rattle.flow.specs.declared.Offerer.{Offerer}
use Rattle.flow.specs.Plan.{flow_at}
use Rattle.refusal.specs.Answer.{Done}
use Rattle.file.specs.Layout.{plan_of}
use Rattle.plan.specs.Notes.{notes_of}
use Rattle.window.specs.Window.{lone_wait}
use Rattle.flight.specs.Flight.{flight}
use Rattle.bounds.specs.Bounds.{window_answer, burst_answer, flight_bound_answer}
use Rattle.book.specs.Line.{Line, waiting, is_waiting, is_left, entry_of, exit_of}
use Rattle.book.specs.Book.{Book}
use Rattle.book.specs.Feed.{run}
use Rattle.book.specs.Promises.{deadline}
use Rattle.state.specs.declared.Tally.{Tally}
use Rattle.state.specs.Layout.{flow_place}
use Rattle.state.specs.Read.{clock_in, tally_in}
use Rattle.state.specs.Outcome.{outcome, over}
use Rattle.state.specs.Writing.{write_on}
use Rattle.run.specs.Calls.{offer, offer_set, Item, on_memory, memory_after, accepted_of}
use Rattle.run.specs.List.{IsList, fed, OfEveryList}

-- the packet book after a list from the file's reset
abbrev pub book_after : (file : List ℕ) → List Item → Book
book_after file is = (run (plan_of file) (fed (plan_of file) is)).book

-- the step of this cycle has run
abbrev pub HasRun : Book → (cycle : ℕ) → Type 0
HasRun b cycle = cycle < b.clock

-- the line has an entry, in this cycle or an earlier one
abbrev pub EnteredBy : (cycle : ℕ) → Line → Type 0
EnteredBy cycle l = (is_waiting l.stage ≡ false) × (entry_of l.stage ≤ cycle)

-- what the state memory has of flow f: tokens, count, entered and waiting
abbrev pub tally_for : (memory : List ℕ) → (f : ℕ) → Tally
tally_for memory f = tally_in memory (flow_place f)

-- the line of a packet of flow f that is accepted on this state memory, behind q others: its serial is entered + q + 1
abbrev pub line_behind : (memory : List ℕ) → (f q : ℕ) → Line
line_behind memory f q =
    let entered = (tally_in memory (flow_place f)).entered in
    record { flow = f; serial = entered + q + 1; offer = clock_in memory; q = q; D = 0; stage = waiting }

-- of a single offer, q counts the waiting packets
abbrev pub accepted_line : (memory : List ℕ) → (f : ℕ) → Line
accepted_line memory f = line_behind memory f (tally_in memory (flow_place f)).waiting

-- of the entry at this position of a set, q counts the earlier entries of the same flow too
abbrev pub entry_line : (memory flows : List ℕ) → (position : ℕ) → Line
entry_line memory flows position =
    let f = get_or flows position 0 in
    line_behind memory f ((tally_in memory (flow_place f)).waiting + count (λ g. eqb g f) (take position flows))

-- 02, U9: "a flow has an empty queue and at least k tokens, and k offers before one step are accepted". These are any calls in which no
-- step runs, which would add to the clock. More than k may be accepted; then it is the first k that are told of
pub record BurstOffered (memory : List ℕ) (offers : List Item) (f k : ℕ) : Type 0 where
  pub empty : (tally_for memory f).waiting ≡ 0
  pub tokens : k ≤ (tally_for memory f).bucket.tokens
  pub no_step : clock_in (memory_after memory offers) ≡ clock_in memory
  pub accepted : k ≤ accepted_of f memory offers

-- k packets of flow f wait, whenever they were offered, with a token for each
abbrev pub BurstWaits : (memory : List ℕ) → (f k : ℕ) → Type 0
BurstWaits memory f k = (k ≤ (tally_for memory f).waiting) × (k ≤ (tally_for memory f).bucket.tokens)

-- "all k have entered": on a later memory, with its book, the next k packets of flow f have, each by the last of the B cycles. Their
-- serials are entered + 1 to entered + k: those of the first k accepted on an empty queue, or of the first k that wait
pub record BurstEntered (memory later : List ℕ) (b : Book) (f k B : ℕ) : Type 0 where
  pub counted : (tally_for memory f).entered + k ≤ (tally_for later f).entered
  pub there : (n : ℕ) → (tally_for memory f).entered < n → n ≤ (tally_for memory f).entered + k
      → (l : Line) × Mem l b.lines × (l.flow ≡ f) × (l.serial ≡ n)
  pub each : (l : Line) → Mem l b.lines → l.flow ≡ f → (tally_for memory f).entered < l.serial
      → l.serial ≤ (tally_for memory f).entered + k → EnteredBy (clock_in memory + B - 1) l

-- "once B cycles are stepped", whatever is called from this memory on, up to the next accepted reset, with the book after it
abbrev pub EntersWithin : (memory : List ℕ) → (f k B : ℕ) → (more : List Item) → (after : Book) → Type 0
EntersWithin memory f k B more after =
    let later = memory_after memory more in
    IsList memory more → clock_in memory + B ≤ clock_in later → BurstEntered memory later after f k B

-- the book and the state memory after a list
pub record Told (file : List ℕ) (is : List Item) (b : Book) (memory : List ℕ) : Type 0 where
  -- if the window call answers T for its flow, a line has entered once the step of cycle offer+(q+1)×(P+T−1)−1 has run
  pub enters_by_window : (l : Line) → Mem l b.lines → (T : ℕ) → window_answer file l.flow ≡ Done T
      → HasRun b (deadline (plan_of file) l T) → EnteredBy (deadline (plan_of file) l T) l
  -- a lone packet (q = 0) waits at most P+T−2, the wait that the listing prints
  pub lone_enters : (l : Line) → Mem l b.lines → (T : ℕ) → window_answer file l.flow ≡ Done T → l.q ≡ 0
      → let last = l.offer + lone_wait (flow_at (plan_of file) l.flow) T in HasRun b last → EnteredBy last l
  -- if the burst call answers B for k packets of a flow, and on an empty queue with k tokens k are accepted before one step, all have
  -- entered once B cycles are stepped
  pub burst_enters : (f k B : ℕ) → burst_answer file f k ≡ Done B → (offers more : List Item) → BurstOffered memory offers f k
      → EntersWithin memory f k B (offers ++ more) (book_after file (is ++ (offers ++ more)))
  -- and so have k packets that wait with a token for each
  pub waiting_enter : (f k B : ℕ) → burst_answer file f k ≡ Done B → (more : List Item) → BurstWaits memory f k
      → EntersWithin memory f k B more (book_after file (is ++ more))
  -- if the flight call answers B for its flow, the flight of a line that has left, exit − entry + 2, is at most B
  pub flies_within : (l : Line) → Mem l b.lines → (B : ℕ) → flight_bound_answer file l.flow ≡ Done B
      → is_left l.stage ≡ true → flight (entry_of l.stage) (exit_of l.stage) ≤ B
  -- and an entered line has left once the step of cycle entry+B−2 has run
  pub leaves_by : (l : Line) → Mem l b.lines → (B : ℕ) → flight_bound_answer file l.flow ≡ Done B
      → is_waiting l.stage ≡ false → HasRun b (entry_of l.stage + B - 2) → is_left l.stage ≡ true
  -- a packet accepted with q waiting gets serial entered + q + 1, whoever offers it
  pub gets_serial : (who : Offerer) (f n : ℕ) → let i : Item = record { asked = offer who f; lent_words = n } in
      (on_memory memory i).answer ≡ Done 0 → (book_after file (is ++ (i ∷ []))).lines ≡ b.lines ++ (accepted_line memory f ∷ [])
  -- and so does each of an accepted set, in its order; q counts the earlier entries of the same flow too
  pub get_serials : (flows : List ℕ) (n : ℕ) → let i : Item = record { asked = offer_set flows; lent_words = n } in
      (on_memory memory i).answer ≡ Done 0 → (book_after file (is ++ (i ∷ []))).lines ≡ b.lines ++ tabulate (length flows) (entry_line memory flows)
  -- writing the state with the file's notes gives the file back; target bytes past it are unchanged
  pub writes_back : (target : List ℕ) → length file ≤ length target
      → write_on memory (notes_of file) target ≡ outcome (Done (length file)) (over file target)

abbrev pub EveryAnswer : Type 0
EveryAnswer = OfEveryList (λ file words memory is. Told file is (book_after file is) (memory_after memory is))
