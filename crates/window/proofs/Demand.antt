-- Laws of what rivals add to I(t): it never falls, is small, and is a packet each at least. Rests on the laws of the curve.
use mathlib.Core.List.{List, [], ◌∷◌}
use Prim.Native.Nat.{ℕ, ◌+◌, ◌-◌, ◌*◌, ◌≤◌}
use native.Mathlib.Omega.{arith}
use lib.ListN.{length, get_or}
use Rattle.std.proofs.lemmas.List.Elements.{All-tail}
use Rattle.std.proofs.lemmas.List.Sums.{sum_by-cons, sum_by-le, sum_by-le-sum_by}
use Rattle.bucket.proofs.Curve.{curve_span, curve_least, curve_most}
use Rattle.window.specs.declared.Rival.{Rival}
use Rattle.window.specs.Window.{most_window}
use Rattle.window.specs.Rivals.{RivalOk, AllOk, rival_share, demand_of}

pub demand_time : (rivals : List Rival) (t u : ℕ) → t ≤ u → demand_of rivals t ≤ demand_of rivals u
unfolding demand_of rival_share
demand_time rivals t u h = sum_by-le-sum_by _ _ rivals (λ r. curve_span r.burst r.period (omega arith))

-- more than a burst, a window and a spread together
abbrev pub most_share : ℕ
most_share = 70000

-- no rival adds more than its burst, the window and its spread
pub rival_most : (t : ℕ) (r : Rival) → RivalOk r → t ≤ most_window → rival_share t r ≤ most_share
unfolding rival_share
rival_most t r ok h = omega (arith, curve_most r.burst r.period (t - 1 + r.spread), ok.burst_most, ok.spread_most)

pub demand_most : (rivals : List Rival) (t : ℕ) → AllOk rivals → t ≤ most_window → demand_of rivals t ≤ most_share * length rivals
unfolding demand_of
demand_most rivals t ok h =
    omega (arith, sum_by-le (rival_share t) most_share rivals (λ k d below. rival_most t (get_or rivals k d) (ok k d below) h))

-- they add a packet each at least
pub demand_least : (rivals : List Rival) (t : ℕ) → AllOk rivals → length rivals ≤ demand_of rivals t
unfolding demand_of rival_share
demand_least [] t ok = omega arith
demand_least (r ∷ rs) t ok =
    let here : RivalOk r = ok 0 r (omega arith) in
    omega (
      arith,
      sum_by-cons (rival_share t) r rs,
      curve_least r.burst r.period (t - 1 + r.spread),
      here.burst_least,
      demand_least rs t (All-tail RivalOk r rs ok),
    )
