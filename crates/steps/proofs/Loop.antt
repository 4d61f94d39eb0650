-- One turn of the loop, in plain values: the steps end, one more step, or a leap. Rests on Behind, the laws of many steps and the law of the
-- cycle.
use mathlib.Core.List.{List, ◌++◌, append-nil}
use mathlib.Core.Path.{◌≡◌, refl, sym, ap, subst, ◌∙◌}
use Prim.Native.Nat.{ℕ, zero, suc, ◌+◌, ◌-◌, ◌*◌, ◌≤◌, ◌<◌}
use native.Mathlib.Numerals.{add-one}
use native.Mathlib.Omega.{arith}
use lib.ListN.{length, take, drop, length-append, length-drop}
use Rattle.std.specs.Prelude.{Option}
use Rattle.laws.specs.Turns.{turns}
use Rattle.laws.proofs.Turns.{turns_add, turns_stay}
use Rattle.flow.specs.Plan.{Plan}
use Rattle.flow.specs.Limits.{last_clock, exit_size}
use Rattle.flow.proofs.Limits.{step_passes, passes_step}
use Rattle.router.specs.Delivery.{words_of}
use Rattle.router.proofs.Delivery.{words_append, words_length}
use Rattle.state.specs.State.{State}
use Rattle.state.specs.Words.{state_words}
use Rattle.state.specs.Read.{sx_in, sy_in, clock_in, plan_in, state_of}
use Rattle.state.specs.Facts.{StateFacts}
use Rattle.state.specs.Outcome.{over}
use Rattle.state.proofs.Forms.{state_facts}
use Rattle.state.proofs.Over.{over_behind}
use Rattle.cycle.specs.Step.{step_state, deliveries}
use Rattle.cycle.specs.Progress.{Progress, next_number, advanced, advance, progress, Reached}
use Rattle.cycle.proofs.Offer.{words_sound, words_again, over_forms, over_read, over_again}
use Rattle.cycle.proofs.Progress.{ProgressOk, progress_ok, progress_plan, advance_runs, advance_ends}
use Rattle.leap.specs.Leap.{leap_state, Idle, Leapt}
use Rattle.leap.proofs.Idle.{idle_less, leap_law, leap_delivers}
use Rattle.steps.specs.declared.Turn.{Turn}
use Rattle.steps.specs.Loop.{Checked, Rooms, number_behind, Behind, Turned, leapt, stepped}

-- a leap: so many steps in which nothing is delivered
module _ (room : ℕ) (r : Progress) (ok : ProgressOk room r) (free : next_number room r ≡ 0) where
  abbrev s : State
  s = r.state

  abbrev there : ℕ → Progress
  there k = record { state = leap_state k s; delivered = r.delivered }

  still_free : (k : ℕ) → s.clock + k < last_clock → next_number room (there k) ≡ 0
  unfolding leap_state
  still_free k l =
      let left = room - exit_size * length r.delivered in
      let was = step_passes s.plan left s.clock free in
      passes_step s.plan left (s.clock + k) (record { room_fits = was.room_fits; clock_other = λ e. omega arith })

  pub leap_run : (k : ℕ) → Idle k s → s.clock + k ≤ last_clock → turns k (λ i. advance room) r ≡ there k
  unfolding turns
  leap_run zero idle l = λ j. record { state = leap_law s ok.sound 0 idle j; delivered = r.delivered }
  leap_run (suc k) idle l =
      let less = idle_less (suc k) k s (omega arith) idle in
      let more : Idle (k + 1) s = rw (← (add-one k)) at idle in
      let next : step_state (leap_state k s) ≡ leap_state (suc k) s = ap step_state (sym (leap_law s ok.sound k less)) ∙ leap_law s ok.sound (suc k) idle in
      let same = ap (λ l. r.delivered ++ l) (leap_delivers s ok.sound k more) ∙ append-nil r.delivered in
      ap (advance room) (leap_run k less (omega arith))
      ∙ advance_runs room (there k) (still_free k (omega arith))
      ∙ (λ j. record { state = next j; delivered = same j })

-- the memories w' and d' after n steps on w and d, with so many exits
abbrev pub After : (w d : List ℕ) → (n exits : ℕ) → (w' d' : List ℕ) → Type 0
After w d n exits w' d' = Reached w d (progress (length d) (state_of w) n) exits w' d'

module _ (w d : List ℕ) (checked : Checked w d) where
  pub after_none : After w d 0 0 w d
  unfolding turns
  after_none = record { exits_are = refl; words_are = words_again w checked.formed; delivery_is = refl }

  module _ (n exits : ℕ) (w' d' : List ℕ) (a : After w d n exits w' d') where
    abbrev r : Progress
    r = progress (length d) (state_of w) n

    abbrev at : ℕ
    at = exit_size * exits

    ok : ProgressOk (length d) r
    ok = progress_ok (length d) (state_of w) (words_sound w checked.formed) n

    -- the words form a state, that of the steps so far: nothing is checked between them
    after_facts : StateFacts w'
    after_facts = rw a.words_are (state_facts _ (over_forms r.state ok.sound w))

    after_state : state_of w' ≡ r.state
    after_state = rw a.words_are (over_read r.state ok.sound w)

    -- the exits so far lie in the delivery memory
    front : length (words_of r.delivered) ≡ at
    front = words_length r.delivered ∙ rw a.exits_are

    after_room : at ≤ length d
    after_room = rw a.exits_are ok.fits

    pub after_length : length d' ≡ length d
    after_length = rw (a.delivery_is, length-append, length-drop, front) (omega (arith, after_room))

    pub after_behind : Behind w' d' exits
    after_behind = record { facts = after_facts; fits = rw after_length after_room }

    -- the rooms stay large enough
    pub after_rooms : (e : List (Option ℕ)) (g : List ℕ) (e' : List (Option ℕ)) (g' : List ℕ) → Rooms w e g → length e' ≡ length e → length g' ≡ length g → Rooms w' e' g'
    unfolding state_of plan_in
    after_rooms e g e' g' rooms le lg =
        let plan : (state_of w').plan ≡ (state_of w).plan =
        ap (λ (s : State). s.plan) after_state ∙ progress_plan (length d) (state_of w) n in
        let sx : sx_in w' ≡ sx_in w = ap (λ (p : Plan). p.sx) plan in
        let sy : sy_in w' ≡ sy_in w = ap (λ (p : Plan). p.sy) plan in
        record { entrants_fit = rw (sx, sy, le) rooms.entrants_fit; registers_fit = rw (sx, sy, lg) rooms.registers_fit }

    -- the refusal of the next step
    number_next : number_behind w' d' exits ≡ next_number (length d) r
    unfolding number_behind
    number_next = rw (after_state, after_length, a.exits_are)

    -- the steps end
    pub after_end : (cycles : ℕ) → n ≤ cycles → (number_behind w' d' exits ≡ 0 → ⊥) → After w d cycles exits w' d'
    after_end cycles l e =
        let all : n + (cycles - n) ≡ cycles = omega arith in
        let stays = advance_ends (length d) r (λ h. e (number_next ∙ h)) in
        let same : progress (length d) (state_of w) cycles ≡ r =
        ap (λ m. progress (length d) (state_of w) m) (sym all) ∙ turns_add (advance (length d)) n (cycles - n) _
        ∙ turns_stay (advance (length d)) (cycles - n) r stays in
        subst (λ q. Reached w d q exits w' d') (sym same) a

    module _ (free : number_behind w' d' exits ≡ 0) where
      next_free : next_number (length d) r ≡ 0
      next_free = sym number_next ∙ free

      plan_same : (step_state r.state).plan ≡ r.state.plan
      unfolding step_state
      plan_same = refl

      -- one more step
      after_step : (w'' d'' : List ℕ) → w'' ≡ over (state_words (step_state (state_of w'))) w'
          → d'' ≡ take at d' ++ over (words_of (deliveries (state_of w'))) (drop at d')
          → After w d (n + 1) (exits + length (deliveries (state_of w'))) w'' d''
      unfolding turns
      after_step w'' d'' words delivery =
          let run : progress (length d) (state_of w) (n + 1) ≡ advanced 0 r = rw add-one (advance_runs (length d) r next_free) in
          subst (λ q. Reached w d q (exits + length (deliveries (state_of w'))) w'' d'') (sym run)
          (record {
            exits_are = rw (a.exits_are, after_state) (sym (length-append r.delivered (deliveries r.state)));
            words_are = words ∙ rw (after_state, a.words_are) (over_again r.state (step_state r.state) w plan_same);
            delivery_is = delivery ∙ rw (after_state, a.delivery_is, words_append r.delivered (deliveries r.state))
                (over_behind (words_of r.delivered) (words_of (deliveries r.state)) d at front);
          })

      clock_is : clock_in w' ≡ r.state.clock
      unfolding state_of
      clock_is = ap (λ (s : State). s.clock) after_state

      plan_kept : (k : ℕ) → (leap_state k r.state).plan ≡ r.state.plan
      unfolding leap_state
      plan_kept k = refl

      -- a leap
      after_leap : (most k : ℕ) (w'' : List ℕ) → Leapt w' most k w'' → 1 ≤ k → After w d (n + k) exits w'' d'
      after_leap most k w'' jump some =
          let idle : Idle k r.state = subst (Idle k) after_state (jump.idle some) in
          let last : r.state.clock + k ≤ last_clock = omega (arith, jump.clock_most, clock_is) in
          let run = turns_add (advance (length d)) n k _ ∙ leap_run (length d) r ok next_free k idle last in
          subst (λ q. Reached w d q exits w'' d') (sym run)
          (record {
            exits_are = a.exits_are;
            words_are = jump.leaps some ∙ rw (after_state, a.words_are) (over_again r.state (leap_state k r.state) w (plan_kept k));
            delivery_is = a.delivery_is;
          })

      -- a turn
      pub after_turn : (left : ℕ) (t : Turn) (w'' d'' : List ℕ) → Turned w' d' exits left t w'' d'' → After w d (n + t.cycles) t.exits w'' d''
      after_turn left t w'' d'' (leapt jump some same kept) = rw (same, kept) (after_leap left t.cycles w'' jump some)
      after_turn left t w'' d'' (stepped one words count delivery) =
          subst (λ k. After w d (n + k) t.exits w'' d'') (sym one) (subst (λ e. After w d (n + 1) e w'' d'') (sym count) (after_step w'' d'' words delivery))

-- a turn takes a cycle at least, and no more than are left
module _ (w d : List ℕ) (exits left : ℕ) (t : Turn) (w' d' : List ℕ) where
  pub turn_least : Turned w d exits left t w' d' → 1 ≤ t.cycles
  turn_least (leapt jump some same kept) = some
  turn_least (stepped one words count delivery) = omega arith

  pub turn_most : 1 ≤ left → Turned w d exits left t w' d' → t.cycles ≤ left
  turn_most l (leapt jump some same kept) = jump.within
  turn_most l (stepped one words count delivery) = omega arith

pub after_at : {w d : List ℕ} {exits : ℕ} {w' d' : List ℕ} (m n : ℕ) → m ≡ n → After w d m exits w' d' → After w d n exits w' d'
after_at {w} {d} {exits} {w'} {d'} m n e a = subst (λ k. After w d k exits w' d') e a
