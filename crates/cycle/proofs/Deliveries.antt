-- How much a cycle delivers: one packet a router at most. Rests on specs/Step.
use mathlib.Core.List.{List}
use Prim.Native.Nat.{ℕ, zero, suc, ◌*◌, ◌≤◌}
use native.Mathlib.Omega.{arith}
use lib.ListN.{length, length-append}
use Rattle.laws.specs.Count.{join_below}
use Rattle.flow.specs.Limits.{room_for}
use Rattle.router.specs.Rule.{leave}
use Rattle.router.specs.Delivery.{Delivery, words_of}
use Rattle.router.proofs.Delivery.{words_length}
use Rattle.state.specs.Register.{Register}
use Rattle.std.specs.Prelude.{Some, None}
use Rattle.state.specs.State.{State}
use Rattle.cycle.specs.Step.{carried, leaving, delivered, deliveries}

-- n turns of at most c exits
few : (c n : ℕ) (delivers : ℕ → List Delivery) → ((i : ℕ) → length (delivers i) ≤ c) → length (join_below n delivers) ≤ c * n
few c zero delivers h = omega arith
few c (suc n) delivers h = omega (arith, few c n delivers h, h n, length-append (join_below n delivers) (delivers n))

module _ (s : State) where
  router_exits : (x y : ℕ) → length (delivered s x y) ≤ 1
  unfolding delivered
  router_exits x y = most (carried s x y leave)
    where
      most : (r : Register) → length (leaving s.clock r) ≤ 1
      most None = omega arith
      most (Some packet) = omega arith

  -- the first n routers of row y
  pub row_exits : (y n : ℕ) → length (join_below n (λ x. delivered s x y)) ≤ n
  row_exits y n = omega (arith, few 1 n (λ x. delivered s x y) (λ x. router_exits x y))

  -- the first n rows
  pub rows_exits : (n : ℕ) → length (join_below n (λ y. join_below s.plan.sx (λ x. delivered s x y))) ≤ s.plan.sx * n
  rows_exits n = few s.plan.sx n _ (λ y. row_exits y s.plan.sx)

  -- their words fit where 10 isn't refused
  pub exits_fit : length (words_of (deliveries s)) ≤ room_for s.plan
  unfolding deliveries
  exits_fit = omega (arith, words_length (deliveries s), rows_exits s.plan.sy)
