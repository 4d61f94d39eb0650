-- A step behind the exits so far: the part of the delivery memory that it is lent, and the room that it has. Rests on the laws of a step.
use mathlib.Core.List.{List, [], ◌++◌, append-nil}
use mathlib.Core.Logic.{◌≢◌}
use mathlib.Core.Path.{◌≡◌}
use Prim.Native.Nat.{ℕ, ◌+◌, ◌-◌, ◌*◌, ◌≤◌, ◌<◌}
use native.Mathlib.Omega.{arith}
use lib.ListN.{length, take, drop, replicate, length-drop, length-replicate, get_or-replicate, drop_of_length-le}
use Rattle.std.specs.Prelude.{Option, None}
use lib.Seq.{take_all}
use Rattle.flow.specs.Limits.{last_clock, exit_size}
use Rattle.flow.proofs.Limits.{StepPasses, step_passes}
use Rattle.router.proofs.Delivery.{words_length}
use Rattle.state.specs.Read.{clock_in, plan_in, state_of}
use Rattle.cycle.specs.Step.{deliveries}
use Rattle.cycle.proofs.Deliveries.{exits_fit}
use Rattle.entry.proofs.Clients.{no_entrants}
use Rattle.step.specs.Next.{Stepping, Room}
use Rattle.steps.specs.Loop.{Rooms, number_behind, FreeBehind}

-- the part of a memory behind a place, lent and given back
module _ (at : ℕ) (d : List ℕ) where
  pub part_is : take (length d - at) (drop at d) ≡ drop at d
  part_is = take_all (length d - at) (drop at d) (rw (length-drop at d) (omega arith))

  pub put_is : (part : List ℕ) → take at d ++ (part ++ drop (length d - at) (drop at d)) ≡ take at d ++ part
  put_is part =
      let none : drop (length d - at) (drop at d) ≡ [] = drop_of_length-le (drop at d) {i = length d - at} (rw (length-drop at d) (omega arith)) in
      rw (none, append-nil)

module _ (w d : List ℕ) (exits : ℕ) (f : FreeBehind w d exits) where
  passes : StepPasses (state_of w).plan (length d - exit_size * exits) (state_of w).clock
  unfolding number_behind
  passes = step_passes _ _ _ f.free

  -- its own exits lie in the memory too
  pub behind_fits : exit_size * (exits + length (deliveries (state_of w))) ≤ length d
  behind_fits = omega (arith, passes.room_fits, exits_fit (state_of w), words_length (deliveries (state_of w)), f.behind.fits)

  -- it may go on, with the memory behind them
  pub behind_steps : clock_in w < last_clock + 1 → Stepping w (drop (exit_size * exits) d)
  unfolding state_of plan_in
  behind_steps l =
      let other : clock_in w ≢ last_clock = passes.clock_other in
      record {
        facts = f.behind.facts;
        clock_below = omega arith;
        delivery_fits = rw (length-drop (exit_size * exits) d) passes.room_fits;
      }

-- room that is cleared anew
pub cleared : (w : List ℕ) (e : List (Option ℕ)) (g : List ℕ) → Rooms w e g → Room w (replicate (length e) None) (replicate (length g) 0)
cleared w e g rooms =
    record {
      registers_fit = rw length-replicate rooms.registers_fit;
      registers_clear = λ i h. get_or-replicate (length g) i 0 0 (omega (arith, rooms.registers_fit));
      no_entrants = no_entrants w (length e) rooms.entrants_fit;
    }

-- a step's room is room for the steps
pub rooms_of : (w : List ℕ) (e : List (Option ℕ)) (g : List ℕ) → Room w e g → Rooms w e g
unfolding state_of plan_in
rooms_of w e g room = record { entrants_fit = room.no_entrants.room; registers_fit = room.registers_fit }
