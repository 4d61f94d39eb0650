-- The call of many steps, by the state and the deliveries that they reach: steps on words are steps on the state that the words hold. Rests
-- on Progress and the laws of a state's words.
use mathlib.Core.List.{List}
use mathlib.Core.Path.{◌≡◌, refl, sym, ap, ◌∙◌}
use Prim.Native.Nat.{ℕ, zero, suc, ◌-◌, ◌*◌, ◌≤◌}
use native.Mathlib.Omega.{arith}
use lib.ListN.{length, take, drop, length-append, length-drop}
use lib.Seq.{take_at, drop_at}
use Rattle.laws.specs.Turns.{turns}
use Rattle.flow.specs.Limits.{exit_size, most_delivered, used_room}
use Rattle.flow.proofs.Limits.{used_length}
use Rattle.refusal.specs.Answer.{Answer, Done}
use Rattle.router.specs.Delivery.{words_of}
use Rattle.router.proofs.Delivery.{words_append, words_length}
use Rattle.state.specs.State.{State}
use Rattle.state.specs.Words.{state_words}
use Rattle.state.specs.Read.{state_of}
use Rattle.state.specs.Forms.{state_number}
use Rattle.state.specs.Outcome.{Outcome, outcome, Lent, lent, refused, unless, unless_refused, over}
use Rattle.state.proofs.Over.{over_behind, over_front, unless_passes, unless_refused_done}
use Rattle.cycle.specs.Step.{step_state, deliveries, step_on}
use Rattle.cycle.specs.Steps.{joined, step_more, steps_on}
use Rattle.cycle.specs.Progress.{Progress, next_number, advanced, advance, progress, Reached}
use Rattle.cycle.proofs.Offer.{words_sound, words_again, over_forms, over_read, over_again}
use Rattle.cycle.proofs.Keeps.{step_done}
use Rattle.cycle.proofs.Progress.{ProgressOk, progress_ok}

module _ (w d : List ℕ) where
  -- the memories that hold how far the steps have come
  abbrev pub holding : Progress → Outcome ℕ Lent
  holding r = outcome (length r.delivered) (lent (over (state_words r.state) w) (over (words_of r.delivered) d))

  module _ (r : Progress) (ok : ProgressOk (length d) r) where
    abbrev s : State
    s = r.state

    abbrev at : ℕ
    at = exit_size * length r.delivered

    abbrev words : List ℕ
    words = over (state_words s) w

    front : length (words_of r.delivered) ≡ at
    front = words_length r.delivered

    -- the memory behind the exits so far
    abbrev rest : List ℕ
    rest = drop at (over (words_of r.delivered) d)

    room_left : length rest ≡ length d - at
    room_left =
        let behind : rest ≡ drop at d = drop_at (words_of r.delivered) _ at front ∙ rw front in
        ap length behind ∙ length-drop at d

    -- what the next step answers and leaves, by its refusal
    abbrev does : Outcome Answer Lent
    does =
        outcome (Done (length (deliveries s))) (lent (over (state_words (step_state s)) words) (over (words_of (deliveries s)) rest))

    stepped : step_on words rest ≡ unless (next_number (length d) r) (lent words rest) does
    unfolding step_on
    stepped = rw (over_forms s ok.sound w, over_read s ok.sound w, room_left) (sym (unless_passes 0 _ _ refl))

    joins : step_more (holding r) ≡ joined (holding r) (unless (next_number (length d) r) (lent words rest) does).answer
        (unless (next_number (length d) r) (lent words rest) does).memory
    unfolding step_more
    joins = ap (λ (o : Outcome Answer Lent). joined (holding r) o.answer o.memory) stepped

    plan_same : (step_state s).plan ≡ s.plan
    unfolding step_state
    plan_same = refl

    step_is : (n : ℕ) → next_number (length d) r ≡ n → step_more (holding r) ≡ holding (advanced n r)
    unfolding unless
    step_is zero e =
        joins ∙ rw (e, over_again s (step_state s) w plan_same, over_behind (words_of r.delivered) (words_of (deliveries s)) d at front)
        (rw (← (words_append r.delivered (deliveries s)), ← (length-append r.delivered (deliveries s))))
    step_is (suc n) e = joins ∙ rw e

    -- one step more
    more_is : step_more (holding r) ≡ holding (advance (length d) r)
    unfolding advance
    more_is = step_is (next_number (length d) r) refl

  -- so many steps on words that form a state
  all_is : (formed : state_number w ≡ 0) (n : ℕ) → turns n (λ i. step_more) (outcome 0 (lent w d)) ≡ holding (progress (length d) (state_of w) n)
  unfolding turns
  all_is formed zero = ap (λ v. outcome 0 (lent v d)) (words_again w formed)
  all_is formed (suc n) = ap step_more (all_is formed n) ∙ more_is _ (progress_ok (length d) (state_of w) (words_sound w formed) n)

-- how far the call comes
abbrev pub reached : (w d : List ℕ) → (cycles : ℕ) → Progress
reached w d cycles = progress (used_room (length d)) (state_of w) cycles

-- a step's refusal refuses the call
pub steps_refused : (w d : List ℕ) (cycles number : ℕ) → step_on w d ≡ refused number (lent w d) → steps_on w d cycles ≡ refused number (lent w d)
unfolding steps_on unless_refused
steps_refused w d cycles number e = rw e

-- otherwise its answer counts what was delivered, and its memories hold what was reached
module _ (w d : List ℕ) (cycles n : ℕ) (e : (step_on w d).answer ≡ Done n) where
  formed : state_number w ≡ 0
  formed = (step_done w d n e).formed

  abbrev r : Progress
  r = reached w d cycles

  -- the exits lie in the front
  few : length (words_of r.delivered) ≤ length (take most_delivered d)
  few =
      let ok = progress_ok (used_room (length d)) (state_of w) (words_sound w formed) cycles in
      omega (arith, words_length r.delivered, ok.fits, used_length d)

  pub steps_done : (exits : ℕ) (w' d' : List ℕ) → Reached w d r exits w' d' → outcome (Done exits) (lent w' d') ≡ steps_on w d cycles
  unfolding steps_on unless_refused
  steps_done exits w' d' l =
      rw (e, all_is w (take most_delivered d) formed cycles, used_length d)
      (rw (l.exits_are, l.words_are, l.delivery_is, over_front (words_of r.delivered) d most_delivered few))

  pub steps_are : outcome (Done (length r.delivered)) (lent (over (state_words r.state) w) (over (words_of r.delivered) d)) ≡ steps_on w d cycles
  steps_are = steps_done _ _ _ (record { exits_are = refl; words_are = refl; delivery_is = refl })

-- an accepted call: the words formed a state, and what it answers and leaves
pub record StepsDone (w d : List ℕ) (cycles exits : ℕ) : Type 0 where
  pub formed : state_number w ≡ 0
  pub words_are : (steps_on w d cycles).memory.state ≡ over (state_words (reached w d cycles).state) w
  pub delivers : take (exit_size * exits) (steps_on w d cycles).memory.other ≡ words_of (reached w d cycles).delivered

steps_first : (w d : List ℕ) (cycles exits : ℕ) → (steps_on w d cycles).answer ≡ Done exits → (n : ℕ) × ((step_on w d).answer ≡ Done n)
unfolding steps_on
steps_first w d cycles exits e = let h = unless_refused_done (step_on w d).answer (lent w d) _ exits e in (h.0, h.1)

pub steps_accepted : (w d : List ℕ) (cycles exits : ℕ) → (steps_on w d cycles).answer ≡ Done exits → StepsDone w d cycles exits
steps_accepted w d cycles exits e =
    let first = steps_first w d cycles exits e in
    let does = steps_are w d cycles first.0 first.1 in
    let ds = (reached w d cycles).delivered in
    let same : Done (length ds) ≡ Done exits = ap (λ (o : Outcome Answer Lent). o.answer) does ∙ e in
    let count : length ds ≡ exits = cc in
    record {
      formed = (step_done w d first.0 first.1).formed;
      words_are = ap (λ (o : Outcome Answer Lent). o.memory.state) (sym does);
      delivers = rw (← does) (take_at (words_of ds) _ (exit_size * exits) (words_length ds ∙ rw count));
    }
