-- Laws of 01's conditions on a packet's place: what puts a packet in place, what it then has, and how small their sums are. Rests
-- on the laws of offsets.
use mathlib.Core.Bool.{true}
use mathlib.Core.Path.{◌≡◌}
use Prim.Native.Nat.{ℕ, ◌+◌, ◌-◌, ◌*◌, ◌≤◌, ◌<◌}
use native.Mathlib.Nat.{mul-le-mul}
use native.Mathlib.Omega.{arith}
use borrow.Author.Tests.{le-leb, leb-true, eq-eqb, ne_eqb, eqb-true}
use lib.Dec.{leb}
use Rattle.laws.proofs.Cases.{and_true}
use Rattle.torus.specs.Axis.{offset, lap}
use Rattle.torus.proofs.Axis.{offset_below}
use Rattle.flow.specs.declared.Flow.{Flow}
use Rattle.flow.specs.Offsets.{ΔX, ΔY}
use Rattle.flow.specs.Plan.{most_size}
use Rattle.flow.specs.Ranges.{FlowOk}
use Rattle.place.specs.Place.{W, N}
use Rattle.place.specs.InPlace.{is_in_place, in_north, in_first_row, in_later_row, rows_done}

-- D×Sx for at most 16 deflections
pub rounds_most : (d sx : ℕ) → d ≤ most_size → sx ≤ most_size → d * sx ≤ most_size * most_size
rounds_most d sx h k = mul-le-mul h k

-- what puts a packet in place, e cycles after its entry
module _ (sx sy : ℕ) (f : Flow) (x y D e : ℕ) where
  abbrev r : ℕ
  r = rows_done sy f y

  pub in_north_lem : x ≡ f.xd → 1 ≤ r → r ≤ ΔY sy f → D < r → e ≡ ΔX sx f + r + D * sx → is_in_place sx sy f (N x y) D e ≡ true
  unfolding is_in_place
  in_north_lem column least most few time =
      rw (
        le-leb 1 e (omega arith),
        eq-eqb x f.xd column,
        le-leb 1 r least,
        le-leb r (ΔY sy f) most,
        le-leb D (r - 1) (omega arith),
        eq-eqb e (ΔX sx f + r + D * sx) time,
      )

  pub in_first_row_lem : r ≡ 0 → let j : ℕ = offset sx f.xs x in 1 ≤ j → j ≤ ΔX sx f → D ≡ 0 → e ≡ j → is_in_place sx sy f (W x y) D e ≡ true
  unfolding is_in_place
  in_first_row_lem row least most none time =
      let j : ℕ = offset sx f.xs x in
      rw (le-leb 1 e (omega arith), eq-eqb r 0 row, le-leb 1 j least, le-leb j (ΔX sx f) most, eq-eqb D 0 none, eq-eqb e j time)

  pub in_later_row_lem : 1 ≤ r → r ≤ ΔY sy f → 1 ≤ D → D ≤ r → e ≡ ΔX sx f + r + (D - 1) * sx + lap sx f.xd x → is_in_place sx sy f (W x y) D e ≡ true
  unfolding is_in_place
  in_later_row_lem least most some few time =
      rw (
        le-leb 1 e (omega arith),
        ne_eqb r 0 (omega arith),
        le-leb r (ΔY sy f) most,
        le-leb 1 D some,
        le-leb D r few,
        eq-eqb e (ΔX sx f + r + (D - 1) * sx + lap sx f.xd x) time,
      )

  -- what a packet in place has: in N, in W of the source's row, and in W of a later row
  pub north_has : is_in_place sx sy f (N x y) D e ≡ true → (x ≡ f.xd) × (1 ≤ r) × (r ≤ ΔY sy f) × (D < r) × (e ≡ ΔX sx f + r + D * sx)
  unfolding is_in_place
  north_has q =
      let all = and_true _ _ (and_true (leb 1 e) (in_north sx sy f x r D e) q).1 in
      let few = and_true _ _ all.0 in
      let most = and_true _ _ few.0 in
      let least = and_true _ _ most.0 in
      let some : 1 ≤ r = leb-true 1 r least.1 in
      let less : D ≤ r - 1 = leb-true D (r - 1) few.1 in
      (eqb-true x _ least.0, some, leb-true r _ most.1, omega arith, eqb-true e _ all.1)

  pub first_row_has : r ≡ 0 → is_in_place sx sy f (W x y) D e ≡ true
      → let j : ℕ = offset sx f.xs x in (1 ≤ j) × (j ≤ ΔX sx f) × (D ≡ 0) × (e ≡ j)
  unfolding is_in_place
  first_row_has row q =
      let all = and_true _ _ (and_true (leb 1 e) (in_first_row sx f x D e) (rw (eq-eqb r 0 row) at q)).1 in
      let none = and_true _ _ all.0 in
      let most = and_true _ _ none.0 in
      (leb-true 1 _ most.0, leb-true _ _ most.1, eqb-true D 0 none.1, eqb-true e _ all.1)

  pub later_row_has : 1 ≤ r → is_in_place sx sy f (W x y) D e ≡ true
      → (r ≤ ΔY sy f) × (1 ≤ D) × (D ≤ r) × (e ≡ ΔX sx f + r + (D - 1) * sx + lap sx f.xd x)
  unfolding is_in_place
  later_row_has least q =
      let all = and_true _ _ (and_true (leb 1 e) (in_later_row sx sy f x r D e) (rw (ne_eqb r 0 (omega arith)) at q)).1 in
      let few = and_true _ _ all.0 in
      let some = and_true _ _ few.0 in
      (leb-true r _ some.0, leb-true 1 D some.1, leb-true D r few.1, eqb-true e _ all.1)

-- a packet in N has been deflected in some of the rows that it has passed
pub north_deflected : (sx sy : ℕ) (f : Flow) (x y D e : ℕ) → FlowOk sx sy f → y < sy → is_in_place sx sy f (N x y) D e ≡ true → D < sy
north_deflected sx sy f x y D e ok h q =
    let far = offset_below sy f.ys y ok.ys_on h in
    omega (arith, (north_has sx sy f x y D e q).3)
