-- The lengths of the words of a state and of their parts, for every size. Rests on specs/Words and the laws of parts.
use mathlib.Core.List.{List, ◌++◌}
use mathlib.Core.Path.{◌≡◌, refl}
use Prim.Native.Nat.{ℕ, ◌+◌, ◌*◌, ◌≤◌, ◌<◌}
use native.Mathlib.Omega.{arith}
use lib.ListN.{length, length-append}
use Rattle.laws.specs.Count.{join_below}
use Rattle.laws.proofs.Stands.{length_join}
use Rattle.laws.proofs.Grid.{cell_below, rows, length_rows}
use Rattle.flow.specs.Plan.{flow_at}
use Rattle.state.specs.Register.{Register}
use Rattle.std.specs.Prelude.{Some, None}
use Rattle.state.specs.declared.Cell.{Cell}
use Rattle.state.specs.Layout.{flow_size, register_size, router_size, flow_place, router_place, state_size, plan_size}
use Rattle.state.specs.State.{State, tally_at, cell_at}
use Rattle.state.specs.Words.{header_words, flow_words, register_words, cell_words, state_words}

-- a router's registers lie behind the flows, within the size
pub router_below : (F sx sy x y : ℕ) → x < sx → y < sy → router_place F sx x y + router_size ≤ state_size F sx sy
router_below F sx sy x y h k = omega (arith, cell_below sx sy x y h k)

pub length_register : (r : Register) → length (register_words r) ≡ register_size
length_register None = refl
length_register (Some packet) = refl

pub length_cell : (c : Cell) → length (cell_words c) ≡ router_size
length_cell c =
    omega (arith, length-append (register_words c.west) (register_words c.north), length_register c.west, length_register c.north)

module _ (s : State) where
  abbrev pub header : List ℕ
  header = header_words s.plan s.clock

  abbrev pub flows : List ℕ
  flows = join_below (length s.plan.flows) (λ f. flow_words (flow_at s.plan f) (tally_at s f))

  abbrev pub cells : List ℕ
  cells = rows s.plan.sx s.plan.sy (λ x y. cell_words (cell_at s x y))

  flows_length : length flows ≡ flow_size * length s.plan.flows
  flows_length = length_join flow_size _ (λ f. flow_words (flow_at s.plan f) (tally_at s f)) (λ f h. refl)

  cells_length : length cells ≡ router_size * (s.plan.sx * s.plan.sy)
  cells_length = length_rows 0 router_size _ _ (λ x y. cell_words (cell_at s x y)) (λ x y h k. length_cell (cell_at s x y))

  pub length_words : length (state_words s) ≡ plan_size s.plan
  unfolding state_words
  length_words = omega (arith, length-append (header ++ flows) cells, length-append header flows, flows_length, cells_length)

  pub front_length : length (header ++ flows) ≡ flow_place (length s.plan.flows)
  front_length = omega (arith, length-append header flows, flows_length)
