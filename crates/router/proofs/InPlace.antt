-- A packet on its path is where 01 lets it be, and one that is there is on its path. Rests on Path and the laws of in place.
use mathlib.Core.Bool.{true}
use mathlib.Core.Logic.{inl, inr}
use mathlib.Core.Path.{◌≡◌, sym, ap, ◌∙◌}
use Prim.Native.Nat.{ℕ, ◌+◌, ◌-◌, ◌*◌, ◌≤◌, ◌<◌}
use native.Mathlib.Decide.{ℕ_discrete}
use native.Mathlib.Omega.{arith}
use Rattle.torus.proofs.Axis.{offset_same, offset_zero}
use Rattle.flow.specs.declared.Flow.{Flow}
use Rattle.flow.specs.Plan.{Plan}
use Rattle.flow.specs.Ranges.{FlowOk}
use Rattle.place.specs.Place.{Place, W, N, column_of, row_of}
use Rattle.place.specs.InPlace.{rows_done, is_in_place}
use Rattle.place.proofs.InPlace.{in_north_lem, in_first_row_lem, in_later_row_lem, north_has, first_row_has, later_row_has}
use Rattle.router.proofs.Limit.{every_row}
use Rattle.router.proofs.Path.{OnPath}

module _ (p : Plan) (f : Flow) (ok : FlowOk p.sx p.sy f) (c D : ℕ) where
  -- with at most a deflection a row
  pub path_in_place : (limit : ℕ → ℕ) → ((n : ℕ) → limit n ≤ n) → (e : ℕ) (at : Place) → OnPath p f limit c D e at
      → is_in_place p.sx p.sy f at D (c - e) ≡ true
  path_in_place limit most e (N x y) h =
      in_north_lem p.sx p.sy f x y D (c - e) h.column h.least h.most
      (omega (arith, h.few, h.least, most (rows_done p.sy f y - 1))) (omega (arith, h.time))
  path_in_place limit most e (W x y) (inl h) =
      in_first_row_lem p.sx p.sy f x y D (c - e) (ap (rows_done p.sy f) h.row ∙ offset_same p.sy f.ys ok.ys_on)
      h.least h.most h.none (omega (arith, h.time))
  path_in_place limit most e (W x y) (inr h) =
      let split : D * p.sx ≡ (D - 1 + 1) * p.sx = ap (λ (d : ℕ). d * p.sx) (omega (arith, h.some)) in
      in_later_row_lem p.sx p.sy f x y D (c - e) h.least h.most h.some (omega (arith, h.few, most (rows_done p.sy f y))) (omega (arith, h.time))

  -- a register of the torus, and an entry before the clock
  pub in_place_path : (e : ℕ) (at : Place) → column_of at < p.sx → row_of at < p.sy → e < c
      → is_in_place p.sx p.sy f at D (c - e) ≡ true → OnPath p f every_row c D e at
  in_place_path e (N x y) column row before h =
      let n = north_has p.sx p.sy f x y D (c - e) h in
      record { column = n.0; row = row; least = n.1; most = n.2; few = omega (arith, n.3); time = omega (arith, n.4) }
  in_place_path e (W x y) column row before h =
      elim (ℕ_discrete (rows_done p.sy f y) 0) [
        | yes first ↦
            let n = first_row_has p.sx p.sy f x y D (c - e) first h in
            let own : y ≡ f.ys = sym (offset_zero p.sy f.ys y ok.ys_on row first) in
            inl (record { column = column; row = own; least = n.0; most = n.1; none = n.2; time = omega (arith, n.3) })
        | no later ↦
            let least : 1 ≤ rows_done p.sy f y = omega arith in
            let n = later_row_has p.sx p.sy f x y D (c - e) least h in
            let split : D * p.sx ≡ (D - 1 + 1) * p.sx = ap (λ (d : ℕ). d * p.sx) (omega (arith, n.1)) in
            inr (record { column = column; row = row; least = least; most = n.0; some = n.1; few = n.2; turning = omega arith; time = omega (arith, n.3) })
      ]
