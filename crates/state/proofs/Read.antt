-- What was written is read back: the state that words have, by the parts that stand in them. Rests on Holds and specs/Read.
use mathlib.Core.List.{List, ◌++◌}
use mathlib.Core.Path.{◌≡◌, refl, sym, ap, ◌∙◌}
use Prim.Native.Nat.{ℕ, ◌+◌, ◌-◌, ◌*◌, ◌<◌}
use native.Mathlib.Nat.{add-zero}
use native.Mathlib.Omega.{arith}
use borrow.Author.Tests.{ne_eqb}
use lib.ListN.{length, get_or, drop}
use Rattle.laws.specs.Bounded.{tabulate}
use Rattle.laws.specs.Grid.{grid, cell_index}
use Rattle.laws.proofs.Bounded.{is_tabulate}
use Rattle.laws.proofs.Stands.{Stands, stands_in, stands_first, stands_after}
use Rattle.laws.proofs.Grid.{is_grid}
use Rattle.flow.specs.declared.Flow.{Flow}
use Rattle.flow.specs.Plan.{flow_at, no_flow}
use Rattle.state.specs.Register.{Register}
use Rattle.std.specs.Prelude.{Some, None}
use Rattle.state.specs.declared.Tally.{Tally}
use Rattle.state.specs.declared.Cell.{Cell}
use Rattle.state.specs.Layout.{register_size, flow_place, plan_size}
use Rattle.state.specs.State.{State, tally_at, cell_at, fresh_tally, empty_cell}
use Rattle.state.specs.Words.{flow_words, register_words, cell_words, state_words}
use Rattle.state.specs.Read.{sx_in, sy_in, count_in, clock_in, flow_in, tally_in, register_in, cell_in, router_in, plan_in, state_of}
use Rattle.state.proofs.Words.{length_register}
use Rattle.state.proofs.Holds.{HoldsState, words_hold}

module _ (w : List ℕ) (at : ℕ) where
  pub flow_read : (f : Flow) (t : Tally) → Stands 0 w at (flow_words f t) → flow_in w at ≡ f
  flow_read f t s = λ j. record {
    xs = rw add-zero at (s.same 0 (omega arith)) j;
    ys = s.same 1 (omega arith) j;
    xd = s.same 2 (omega arith) j;
    yd = s.same 3 (omega arith) j;
    period = s.same 4 (omega arith) j;
    burst = s.same 5 (omega arith) j;
  }

  pub tally_read : (f : Flow) (t : Tally) → Stands 0 w at (flow_words f t) → tally_in w at ≡ t
  tally_read f t s = λ j. record {
    bucket = record { tokens = s.same 6 (omega arith) j; count = s.same 7 (omega arith) j };
    entered = s.same 8 (omega arith) j;
    waiting = s.same 9 (omega arith) j;
  }

  pub register_read : (r : Register) → Stands 0 w at (register_words r) → register_in w at ≡ r
  register_read None s = rw (rw add-zero at (s.same 0 (omega arith)))
  register_read (Some packet) s =
      let first : get_or w at 0 ≡ packet.flow + 1 = rw add-zero at (s.same 0 (omega arith)) in
      let less : packet.flow + 1 - 1 ≡ packet.flow = omega arith in
      rw (first, s.same 1 (omega arith), s.same 2 (omega arith), s.same 3 (omega arith), ne_eqb (packet.flow + 1) 0 (λ e. omega arith), less)

-- W and N of a cell
module _ (w : List ℕ) (at : ℕ) (c : Cell) (s : Stands 0 w at (cell_words c)) where
  pub west_part : Stands 0 w at (register_words c.west)
  west_part =
      rw add-zero
      at (stands_in 0 w (cell_words c) (register_words c.west) at 0 s (stands_first 0 (register_words c.west) (register_words c.north)))

  pub north_part : Stands 0 w (at + register_size) (register_words c.north)
  north_part =
      stands_in 0 w (cell_words c) (register_words c.north) at register_size s
      (rw (length_register c.west) at (stands_after 0 (register_words c.west) (register_words c.north)))

  pub cell_read : cell_in w at ≡ c
  cell_read = λ j. record { west = register_read w at c.west west_part j; north = register_read w (at + register_size) c.north north_part j }

-- a tally for each flow, a cell for each router
pub record Sized (s : State) : Type 0 where
  pub tallies_all : length s.tallies ≡ length s.plan.flows
  pub cells_all : length s.cells ≡ s.plan.sx * s.plan.sy

module _ (s : State) (w : List ℕ) (h : Stands 0 w 0 (state_words s)) where
  pub held : HoldsState s (drop (plan_size s.plan) w) w
  held = words_hold s w h

  pub sx_read : sx_in w ≡ s.plan.sx
  sx_read = held.front.head.same 0 (omega arith)

  pub sy_read : sy_in w ≡ s.plan.sy
  sy_read = held.front.head.same 1 (omega arith)

  pub count_read : count_in w ≡ length s.plan.flows
  count_read = held.front.head.same 2 (omega arith)

  pub clock_read : clock_in w ≡ s.clock
  clock_read = held.front.head.same 3 (omega arith)

  pub flow_at_read : (f : ℕ) → f < length s.plan.flows → flow_in w (flow_place f) ≡ flow_at s.plan f
  flow_at_read f l = flow_read w (flow_place f) (flow_at s.plan f) (tally_at s f) (held.front.flow f l)

  pub tally_at_read : (f : ℕ) → f < length s.plan.flows → tally_in w (flow_place f) ≡ tally_at s f
  tally_at_read f l = tally_read w (flow_place f) (flow_at s.plan f) (tally_at s f) (held.front.flow f l)

  pub cell_at_read : (x y : ℕ) → x < s.plan.sx → y < s.plan.sy → cell_in w (router_in w x y) ≡ cell_at s x y
  cell_at_read x y l m = rw (count_read, sx_read) (cell_read w _ (cell_at s x y) (held.router x y l m))

  flows_read : tabulate (count_in w) (λ f. flow_in w (flow_place f)) ≡ s.plan.flows
  flows_read =
      rw count_read
      (sym (is_tabulate s.plan.flows _ (λ f. flow_in w (flow_place f)) no_flow refl (λ f l. sym (flow_at_read f l))))

  pub plan_read : plan_in w ≡ s.plan
  unfolding plan_in
  plan_read = λ j. record { sx = sx_read j; sy = sy_read j; flows = flows_read j }

  tallies_read : Sized s → tabulate (count_in w) (λ f. tally_in w (flow_place f)) ≡ s.tallies
  tallies_read z =
      rw count_read
      (sym (is_tabulate s.tallies _ (λ f. tally_in w (flow_place f)) (fresh_tally 0) z.tallies_all (λ f l. sym (tally_at_read f l))))

  cells_read : Sized s → grid (sx_in w) (sy_in w) (λ x y. cell_in w (router_in w x y)) ≡ s.cells
  cells_read z =
      sym (is_grid s.cells (sx_in w) (sy_in w) (λ x y. cell_in w (router_in w x y)) empty_cell (rw (sx_read, sy_read) z.cells_all) at)
    where
      at : (x y : ℕ) → x < sx_in w → y < sy_in w → get_or s.cells (cell_index (sx_in w) x y) empty_cell ≡ cell_in w (router_in w x y)
      at x y l m =
          ap (λ n. get_or s.cells (cell_index n x y) empty_cell) sx_read
          ∙ sym (cell_at_read x y (rw sx_read at l) (rw sy_read at m))

  pub state_read : Sized s → state_of w ≡ s
  unfolding state_of
  state_read z = λ j. record { plan = plan_read j; clock = clock_read j; tallies = tallies_read z j; cells = cells_read z j }

-- what was written is read back, whatever lies past it
pub read_back : (s : State) (rest : List ℕ) → Sized s → state_of (state_words s ++ rest) ≡ s
read_back s rest z = state_read s (state_words s ++ rest) (stands_first 0 (state_words s) rest) z
