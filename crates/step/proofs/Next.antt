-- The words that a step writes hold the state after it, by one law for each of its three writers. Rests on Push and the laws of a
-- state's words.
use mathlib.Core.List.{List}
use mathlib.Core.Path.{◌≡◌, refl, ◌∙◌}
use Prim.Native.Nat.{ℕ, ◌+◌, ◌*◌, ◌≤◌, ◌<◌}
use native.Mathlib.Omega.{arith}
use borrow.Author.Tests.{lt-ltb}
use lib.ListN.{length, get_or, set, take, drop, replicate, length-replicate, get_or-replicate}
use lib.Seq.{sets, length-take-le}
use Rattle.std.specs.Borrow.{MutBor}
use Rattle.std.specs.Prelude.{Option, None}
use Rattle.laws.specs.Grid.{cell_index}
use Rattle.laws.specs.Turns.{turns}
use Rattle.laws.proofs.Bounded.{get_d_tabulate}
use Rattle.laws.proofs.Grid.{get_d_grid, cell_below}
use Rattle.laws.proofs.Stands.{Stands, stands_take}
use Rattle.state.specs.Layout.{clock_place, router_size, flow_place, plan_size}
use Rattle.state.specs.State.{State, tally_at, cell_at, fresh_tally, empty_cell}
use Rattle.state.specs.Words.{cell_words, state_words}
use Rattle.state.specs.Read.{sx_in, sy_in, count_in, clock_in, plan_in, state_of}
use Rattle.state.specs.Outcome.{over}
use Rattle.state.proofs.Words.{length_cell}
use Rattle.state.specs.Facts.{StateFacts}
use Rattle.state.specs.Tallied.{tallied}
use Rattle.state.proofs.View.{counted}
use Rattle.state.proofs.Tallied.{turned}
use Rattle.state.proofs.Holds.{HoldsState, hold_same, hold_over, clock_written, registers_written}
use Rattle.cycle.specs.Step.{next_tally, next_cell, step_state}
use Rattle.entry.proofs.Clients.{no_entrants}
use Rattle.routing.specs.Walk.{registers_in, pushed_all}
use Rattle.routing.proofs.Push.{pushed_cell, length_pushed}
use Rattle.step.specs.Next.{Room, After, Ran, next_words}

-- room for n routers is enough for a torus with no more
pub room_for : (w : List ℕ) (n : ℕ) → sx_in w * sy_in w ≤ n → Room w (replicate n None) (replicate (router_size * n) 0)
room_for w n few =
    record {
      registers_fit = rw length-replicate (omega arith);
      registers_clear = λ i h. get_or-replicate (router_size * n) i 0 0 (omega arith);
      no_entrants = no_entrants w n few;
    }

-- a call with that room
pub ran_in : {R : Type 0} (post : After R) (s b : MutBor (List ℕ)) (e : MutBor (List (Option ℕ))) (g : MutBor (List ℕ)) (r : R)
    (s' b' : MutBor (List ℕ)) (e' : MutBor (List (Option ℕ))) (g' : MutBor (List ℕ))
    → Room s.now e.now g.now → post s b e g r s' b' e' g' → Ran post s.now b.now r s'.now b'.now
ran_in post s b e g r s' b' e' g' room ran =
    record {
      state = s;
      memory = b;
      entrants = e;
      registers = g;
      state_after = s';
      memory_after = b';
      entrants_after = e';
      registers_after = g';
      before = (refl, refl);
      room = room;
      ran = ran;
      after = (refl, refl);
    }

module _ (w : List ℕ) (facts : StateFacts w) where
  abbrev s : State
  s = state_of w

  -- a step: the next tallies, the next clock, and the registers that the walk leaves in l
  module _ (l : List ℕ) (room : registers_in w ≤ length l) (clear : (i : ℕ) → i < registers_in w → get_or l i 0 ≡ 0) where
    abbrev registers : List ℕ
    registers = take (registers_in w) (pushed_all w l)

    enough : registers_in w ≤ length (pushed_all w l)
    enough = rw (length_pushed w l) room

    registers_length : length registers ≡ registers_in w
    registers_length = length-take-le (registers_in w) (pushed_all w l) enough

    next_cell_lem : (x y : ℕ) → x < sx_in w → y < sy_in w → Stands 0 registers (router_size * cell_index (sx_in w) x y) (cell_words (next_cell s x y))
    next_cell_lem x y h k =
        stands_take 0 (pushed_all w l) (registers_in w) _ _ enough (omega (arith, cell_below (sx_in w) (sy_in w) x y h k, length_cell (next_cell s x y)))
        (pushed_cell w l room clear x y h k)

    written : next_words w (pushed_all w l)
        ≡ sets (set (turns (count_in w) (tallied (next_tally s)) w) clock_place (clock_in w + 1)) (flow_place (length s.plan.flows)) registers
    unfolding next_words
    written = rw (counted w)

    step_holds : HoldsState (step_state s) (drop (plan_size (step_state s).plan) w) (next_words w (pushed_all w l))
    unfolding step_state state_of plan_in
    step_holds =
        rw written
        (hold_same _ _ _ _ _ _
        (registers_written _ _ _ _ _ (clock_written _ _ _ _ _ _ (turned w facts (next_tally s) (count_in w) (omega arith)) (clock_in w + 1)).front
        (next_cell s) registers registers_length next_cell_lem)
        (tally_at (step_state s)) (cell_at (step_state s))
        (λ f h. get_d_tabulate (length s.plan.flows) (next_tally s) f (fresh_tally 0) h ∙ rw (lt-ltb f (count_in w) (rw (counted w) at h)))
        (λ x y h k. get_d_grid (sx_in w) (sy_in w) (next_cell s) empty_cell x y h k))

    -- the words of the state after the cycle, and the rest as it was
    pub next_over : next_words w (pushed_all w l) ≡ over (state_words (step_state (state_of w))) w
    next_over = hold_over (step_state s) _ w step_holds
