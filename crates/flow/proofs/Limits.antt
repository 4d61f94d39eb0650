-- What an offer that isn't refused has: a flow of the plan, and room in its queue; and what a step has: room for its exits, and a clock
-- that goes on. Rests on specs/Limits.
use mathlib.Core.Bool.{cond}
use mathlib.Core.List.{List}
use mathlib.Core.Logic.{◌≢◌}
use mathlib.Core.Path.{◌≡◌}
use Prim.Native.Nat.{ℕ, ◌≤◌, ◌<◌}
use native.Mathlib.Nat.{mul-le-mul}
use native.Mathlib.Decide.{dec_lt}
use native.Mathlib.Omega.{arith}
use borrow.Author.Tests.{leb-false, ltb-false, eqb-false, lt-ltb, le-ltb, ne_eqb}
use lib.Dec.{leb, ltb, eqb}
use lib.ListN.{length, take}
use lib.Seq.{take_all, length-take-le}
use Rattle.laws.proofs.Cases.{passed}
use Rattle.flow.specs.declared.Offerer.{Offerer}
use Rattle.flow.specs.declared.Offerer.TheVariants.{Sonar, Generator}
use Rattle.flow.specs.Plan.{Plan}
use Rattle.flow.specs.Ranges.{PlanOk}
use Rattle.flow.specs.Limits.{most_waiting, most_trial, last_clock, room_for, most_delivered, used_room, limit_of, offer_number, step_number}

-- no limit lies past 65,535
queue_passes : (who : Offerer) (waiting : ℕ) → cond (leb (limit_of who).waiting waiting) (limit_of who).number 0 ≡ 0 → waiting < most_waiting
queue_passes Sonar waiting e = leb-false _ _ (passed (leb most_waiting waiting) 12 0 e).0
queue_passes Generator waiting e =
    let few : waiting < most_trial = leb-false _ _ (passed (leb most_trial waiting) 17 0 e).0 in
    omega arith

pub offer_passes : (who : Offerer) (p : Plan) (f waiting : ℕ) → offer_number who p f waiting ≡ 0 → (f < length p.flows) × (waiting < most_waiting)
unfolding offer_number
offer_passes who p f waiting e =
    let known = passed (leb (length p.flows) f) 11 _ e in
    (leb-false _ _ known.0, queue_passes who waiting known.1)

-- room for an exit at each router, and a clock that isn't the last
pub record StepPasses (p : Plan) (room clock : ℕ) : Type 0 where
  pub room_fits : room_for p ≤ room
  pub clock_other : clock ≢ last_clock

module _ (p : Plan) (room clock : ℕ) where
  pub step_passes : step_number p room clock ≡ 0 → StepPasses p room clock
  unfolding step_number
  step_passes e =
      let long = passed (ltb room (room_for p)) 9 (cond (eqb clock last_clock) 11 0) e in
      record { room_fits = ltb-false _ _ long.0; clock_other = eqb-false _ _ (passed (eqb clock last_clock) 10 0 long.1).0 }

  pub passes_step : StepPasses p room clock → step_number p room clock ≡ 0
  unfolding step_number
  passes_step s = rw (le-ltb room (room_for p) s.room_fits, ne_eqb clock last_clock s.clock_other)

-- many steps use the front of the memory that they are lent
pub used_length : (d : List ℕ) → length (take most_delivered d) ≡ used_room (length d)
unfolding used_room
used_length d =
    elim (dec_lt (length d) most_delivered) [
      | yes l ↦ rw (lt-ltb (length d) most_delivered l, take_all most_delivered d (omega arith))
      | no l ↦ rw (le-ltb (length d) most_delivered (omega arith)) (length-take-le most_delivered d (omega arith))
    ]

room_few : (p : Plan) → PlanOk p → room_for p ≤ most_delivered
unfolding most_delivered
room_few p ok = omega (arith, mul-le-mul ok.sx_most ok.sy_most)

-- for one step it is as good as all of it
pub used_number : (p : Plan) → PlanOk p → (room clock : ℕ) → step_number p (used_room room) clock ≡ step_number p room clock
unfolding step_number used_room
used_number p ok room clock =
    elim (dec_lt room most_delivered) [
      | yes l ↦ rw (lt-ltb room most_delivered l)
      | no l ↦
          let few = room_few p ok in
          rw (le-ltb room most_delivered (omega arith), le-ltb room (room_for p) (omega arith), le-ltb most_delivered (room_for p) few)
    ]
