-- Links are one to one: each register of the torus is reached by the output that feeds it and by no other. Rests on specs/Links.
use mathlib.Core.Bool.{true, ◌&&◌, and-false, false≢true, and-true as and_so}
use mathlib.Core.Path.{◌≡◌, ap}
use Prim.Native.Nat.{ℕ, ◌<◌}
use native.Mathlib.Decide.{ℕ_discrete}
use borrow.Author.Tests.{eq-eqb, ne_eqb}
use lib.Dec.{eqb}
use Rattle.laws.proofs.Cases.{eqb_both}
use Rattle.torus.specs.Axis.{next}
use Rattle.torus.proofs.Axis.{next_one, next_previous, previous_below}
use Rattle.flow.specs.declared.Port.{Port}
use Rattle.flow.specs.declared.Port.TheVariants.{East, South}
use Rattle.flow.specs.Offsets.{same_port}
use Rattle.flow.specs.Plan.{Plan}
use Rattle.place.specs.Place.{Place, W, N, column_of, row_of, same_place}
use Rattle.router.specs.Links.{reach, feeder}

pub place_same : (at at' : Place) → same_place at at' ≡ true → at' ≡ at
place_same (W x y) (W x' y') h = let e = eqb_both x x' y y' h in rw (e.0, e.1)
place_same (W x y) (N x' y') h = absurd (false≢true h)
place_same (N x y) (W x' y') h = absurd (false≢true h)
place_same (N x y) (N x' y') h = let e = eqb_both x x' y y' h in rw (e.0, e.1)

next_same : (size a b : ℕ) → a < size → b < size → eqb (next size a) (next size b) ≡ eqb a b
next_same size a b l m =
    elim (ℕ_discrete a b) [
      | yes e ↦ rw (eq-eqb a b e, eq-eqb (next size a) (next size b) (ap (next size) e))
      | no e ↦ rw (ne_eqb a b e, ne_eqb (next size a) (next size b) (λ h. e (next_one size a b l m h)))
    ]

module _ (p : Plan) where
  -- two outputs reach one register where they are one
  pub reach_same : (x y x' y' : ℕ) (o o' : Port) → x < p.sx → y < p.sy → x' < p.sx → y' < p.sy
      → same_place (reach p x y o) (reach p x' y' o') ≡ eqb x x' && eqb y y' && same_port o' o
  unfolding reach
  reach_same x y x' y' East East l m l' m' = rw (next_same p.sx x x' l l', and_so)
  reach_same x y x' y' East South l m l' m' = rw and-false
  reach_same x y x' y' South East l m l' m' = rw and-false
  reach_same x y x' y' South South l m l' m' = rw (next_same p.sy y y' m m', and_so)

  -- the output that feeds a register of the torus is that of a router of the torus, and reaches it
  pub feeder_on : (at : Place) → column_of at < p.sx → row_of at < p.sy → ((feeder p at).x < p.sx) × ((feeder p at).y < p.sy)
  unfolding feeder
  feeder_on (W x y) column row = (previous_below p.sx x column, row)
  feeder_on (N x y) column row = (column, previous_below p.sy y row)

  pub reach_feeder : (at : Place) → column_of at < p.sx → row_of at < p.sy → reach p (feeder p at).x (feeder p at).y (feeder p at).port ≡ at
  unfolding feeder reach
  reach_feeder (W x y) column row = rw (next_previous p.sx x column)
  reach_feeder (N x y) column row = rw (next_previous p.sy y row)
