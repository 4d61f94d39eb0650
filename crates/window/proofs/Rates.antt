-- Rates that fill the link leave no window: a rival's rate is no more than what it may send in a cycle. Rests on the curve's pace.
use mathlib.Core.List.{List, [], ◌∷◌}
use Prim.Native.Nat.{ℕ, ◌+◌, ◌-◌, ◌*◌, ◌/◌, ◌≤◌}
use native.Mathlib.Nat.{le_trans, div-mul-le_self, div-le_self}
use native.Mathlib.Nat.{mul-le-mul_left, mul-le-mul_right, le_of_mul-le-mul_left, mul_left_comm, mul_comm, add-mul}
use native.Mathlib.Omega.{arith}
use lib.ListN.{length}
use Rattle.std.proofs.lemmas.List.Elements.{All-tail}
use Rattle.std.proofs.lemmas.List.Sums.{sum_by-cons}
use Rattle.std.specs.Prelude.{Some}
use Rattle.bucket.specs.Curve.{curve}
use Rattle.bucket.proofs.Curve.{curve_pace}
use Rattle.flow.specs.declared.Flow.{Flow}
use Rattle.window.specs.declared.Rival.{Rival}
use Rattle.window.specs.Window.{share}
use Rattle.window.specs.Rivals.{RivalOk, AllOk, rival_share, demand_of, whole_link, rate_of, rates_of}

-- r parts of M for every P parts of c
paced : (r P c t M : ℕ) → t ≤ c * P → r * P ≤ M → r * t ≤ M * c
paced r P c t M span part =
    rw (mul_comm M c) (le_trans (mul-le-mul_left r span) (rw mul_left_comm (mul-le-mul_left c part)))

-- the rate of a flow or a rival, in t cycles, is no more than its share of them
rate_paces : (burst period spread t : ℕ) → 1 ≤ burst → 1 ≤ period → 1 ≤ t
    → (whole_link / period) * t ≤ whole_link * curve burst period (t - 1 + spread)
rate_paces burst period spread t tokens cycles h =
    let pace = curve_pace burst period (t - 1 + spread) tokens cycles in
    paced (whole_link / period) period _ t whole_link (omega arith) (div-mul-le_self whole_link period)

rival_paces : (r : Rival) (t : ℕ) → RivalOk r → 1 ≤ t → rate_of r * t ≤ whole_link * rival_share t r
unfolding rival_share
rival_paces r t ok h = rate_paces r.burst r.period r.spread t ok.burst_least ok.period_least h

-- rates that are no more than a demand, with a rival more
pub pace_more : (rates demand : ℕ) (g : Flow) (t j : ℕ) → 1 ≤ g.burst → 1 ≤ g.period → 1 ≤ t → rates * t ≤ whole_link * demand
    → (rates + whole_link / g.period) * t ≤ whole_link * (demand + share g t (Some j))
unfolding share
pace_more rates demand g t j burst period h before =
    omega (
      arith,
      before,
      rate_paces g.burst g.period j t burst period h,
      add-mul rates (whole_link / g.period) t,
    )

rates_pace : (rivals : List Rival) (t : ℕ) → AllOk rivals → 1 ≤ t → rates_of rivals * t ≤ whole_link * demand_of rivals t
unfolding rates_of demand_of
rates_pace [] t ok h = omega arith
rates_pace (r ∷ rs) t ok h =
    let here : RivalOk r = ok 0 r (omega arith) in
    rw (sum_by-cons rate_of r rs, sum_by-cons (rival_share t) r rs)
    (omega (
      arith,
      rival_paces r t here h,
      rates_pace rs t (All-tail RivalOk r rs ok) h,
      add-mul (rate_of r) (rates_of rs) t,
    ))

-- each is the whole link at most
pub rates_most : (rivals : List Rival) → rates_of rivals ≤ whole_link * length rivals
unfolding rates_of
rates_most [] = omega arith
rates_most (r ∷ rs) = omega (arith, sum_by-cons rate_of r rs, div-le_self whole_link r.period, rates_most rs)

-- rates that fill the link leave no window
pub filled : (rates t demand : ℕ) → rates * t ≤ whole_link * demand → whole_link ≤ rates → t ≤ demand
filled rates t demand paces full =
    le_of_mul-le-mul_left {k = whole_link} (le_trans (mul-le-mul_right t full) paces) (omega arith)

pub rivals_fill : (rivals : List Rival) (t : ℕ) → AllOk rivals → 1 ≤ t → whole_link ≤ rates_of rivals → t ≤ demand_of rivals t
rivals_fill rivals t ok h full = filled (rates_of rivals) t (demand_of rivals t) (rates_pace rivals t ok h) full
