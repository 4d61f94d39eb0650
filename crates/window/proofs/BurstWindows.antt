-- Laws of a burst's window B, for whoever has one or none; they open neither the search nor I. Rests on Bursts.
use mathlib.Core.Path.{◌≡◌}
use Prim.Native.Nat.{ℕ, ◌+◌, ◌≤◌}
use native.Mathlib.Omega.{arith}
use Rattle.flow.specs.Plan.{Plan}
use Rattle.std.specs.Prelude.{Some, None}
use Rattle.window.specs.Window.{interference, most_window, window_of, burst_window_of, BurstOfOne}
use Rattle.window.proofs.Bursts.{Least, Tried, at_least, least_none, least_most, least_one}

-- for every plan and flow
pub burst_one : BurstOfOne
unfolding burst_window_of window_of
burst_one p f = least_one (interference p f)

-- B is 1..65,535, I(B) + k ≤ B, and t < I(t) + k for every smaller t
pub burst_least : (p : Plan) (f k B : ℕ) → burst_window_of p f k ≡ Some B → Least (interference p f) k most_window 1 B
unfolding burst_window_of
burst_least p f k B e = at_least _ _ _ _ _ e

-- where t < I(t) + k for every t of 1..65,535 there is no window
pub burst_none : (p : Plan) (f k : ℕ) → Tried (interference p f) k 1 (1 + most_window) → burst_window_of p f k ≡ None
unfolding burst_window_of
burst_none p f k h = least_none _ _ _ _ h

-- where a burst has a window, a smaller one has one that is no larger
pub burst_grows : (p : Plan) (f j k C : ℕ) → j ≤ k → burst_window_of p f k ≡ Some C → (B : ℕ) × ((burst_window_of p f j ≡ Some B) × (B ≤ C))
unfolding burst_window_of
burst_grows p f j k C fewer e =
    let large = burst_least p f k C e in
    least_most (interference p f) j most_window 1 C large.from large.to (omega (arith, large.free))
