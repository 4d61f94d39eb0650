-- What a step does to one line, whatever its way: entry, waiting and leaving. Rests on specs/Cycle.
use mathlib.Core.Bool.{Bool, true, false, not, ◌&&◌, false≢true}
use mathlib.Core.Logic.{inl, inr}
use mathlib.Core.Path.{◌≡◌, refl, sym, ◌∙◌}
use Prim.Native.Nat.{ℕ, ◌≤◌, ◌<◌}
use Rattle.laws.proofs.Cases.{test, and_true}
use Rattle.flow.specs.Plan.{Plan}
use Rattle.router.specs.Rule.{Way, via, leave}
use Rattle.book.specs.Line.{Stage, waiting, placed, left, Line, is_waiting, entry_of}
use Rattle.book.specs.Book.{Book}
use Rattle.book.specs.Cycle.{enters, lowest, sent, move_stage, move}
use Rattle.book.specs.Promises.{EntersBy}

-- the line enters in this step
abbrev pub goes : Plan → Book → Line → Bool
goes p b l = is_waiting l.stage && (enters p b l.flow && lowest b l)

module _ (p : Plan) (c e x y : ℕ) where
  -- a packet that is sent has an entry, the one it had
  pub sent_waits : (o : Way) → is_waiting (sent p c e x y o) ≡ false
  unfolding sent
  sent_waits (via o) = refl
  sent_waits leave = refl

  pub sent_entry : (o : Way) → entry_of (sent p c e x y o) ≡ e
  unfolding sent
  sent_entry (via o) = refl
  sent_entry leave = refl

-- what a step does to a line: it keeps its entry, it waits on, or it comes in
pub data Turn (p : Plan) (b : Book) (l : Line) : Type 0 where
  keeps : is_waiting l.stage ≡ false → is_waiting (move p b l).stage ≡ false → entry_of (move p b l).stage ≡ entry_of l.stage
      → goes p b l ≡ false → Turn p b l
  stays : is_waiting l.stage ≡ true → is_waiting (move p b l).stage ≡ true → goes p b l ≡ false → Turn p b l
  comes : is_waiting l.stage ≡ true → is_waiting (move p b l).stage ≡ false → entry_of (move p b l).stage ≡ b.clock
      → goes p b l ≡ true → Turn p b l

module _ (p : Plan) (b : Book) (l : Line) where
  moved_waits : (s : Stage) → is_waiting (move_stage p b l s) ≡ is_waiting s && not (enters p b l.flow && lowest b l)
  moved_waits waiting =
      elim (test (enters p b l.flow && lowest b l)) [ inl h ↦ rw (h, sent_waits) | inr h ↦ rw h ]
  moved_waits (placed e at) = sent_waits p _ _ _ _ _
  moved_waits (left e t x y) = refl

  -- an entry stays; a new one is the clock
  moved_entry : (s : Stage) → is_waiting s ≡ false → entry_of (move_stage p b l s) ≡ entry_of s
  moved_entry waiting h = absurd (false≢true (sym h))
  moved_entry (placed e at) h = sent_entry p _ _ _ _ _
  moved_entry (left e t x y) h = refl

  new_entry : (s : Stage) → is_waiting s ≡ true → enters p b l.flow && lowest b l ≡ true → entry_of (move_stage p b l s) ≡ b.clock
  new_entry waiting h go = rw (go, sent_entry)
  new_entry (placed e at) h go = absurd (false≢true h)
  new_entry (left e t x y) h go = absurd (false≢true h)

  pub turn : Turn p b l
  turn =
      elim (test (is_waiting l.stage)) [
        | inr w ↦ keeps w (rw (moved_waits l.stage, w)) (moved_entry l.stage w) (rw w)
        | inl w ↦ elim (test (enters p b l.flow && lowest b l)) [
          | inr out ↦ stays w (rw (moved_waits l.stage, w, out)) (rw (w, out))
          | inl go ↦ comes w (rw (moved_waits l.stage, w, go)) (new_entry l.stage w go) (rw (w, go))
        ]
      ]

  -- a line that comes in is of a flow that enters
  pub goes_enters : goes p b l ≡ true → enters p b l.flow ≡ true
  goes_enters g = (and_true _ _ (and_true (is_waiting l.stage) (enters p b l.flow && lowest b l) g).1).0

  -- a line that waits has waited
  pub waited : Turn p b l → is_waiting (move p b l).stage ≡ true → is_waiting l.stage ≡ true
  waited (keeps w w' e g) n = absurd (false≢true (sym w' ∙ n))
  waited (stays w w' g) n = w
  waited (comes w w' e g) n = absurd (false≢true (sym w' ∙ n))

  -- an entry before cycle d stays, and a new one is the clock
  pub timely : (d : ℕ) → Turn p b l → (is_waiting l.stage ≡ false → entry_of l.stage < d) → (is_waiting l.stage ≡ true → b.clock < d)
      → is_waiting (move p b l).stage ≡ false → entry_of (move p b l).stage < d
  timely d (keeps w w' e g) old due n = rw e (old w)
  timely d (stays w w' g) old due n = absurd (false≢true (sym n ∙ w'))
  timely d (comes w w' e g) old due n = rw e (due w)

-- a line enters by a cycle, told by whether it waits
pub by_stage : (d c : ℕ) (s : Stage) → (is_waiting s ≡ true → c ≤ d) → (is_waiting s ≡ false → entry_of s ≤ d) → EntersBy d c s
by_stage d c waiting w e = w refl
by_stage d c (placed t at) w e = e refl
by_stage d c (left t u x y) w e = e refl
