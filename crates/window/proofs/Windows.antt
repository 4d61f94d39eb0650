-- Laws of the window T, for whoever has one or none; they open neither the search nor I. T is a burst's window for one packet: they rest on
-- BurstWindows.
use mathlib.Core.Path.{◌≡◌, sym, ◌∙◌}
use Prim.Native.Nat.{ℕ, ◌+◌, ◌≤◌, ◌<◌}
use native.Mathlib.Omega.{arith}
use Rattle.flow.specs.Plan.{Plan}
use Rattle.std.specs.Prelude.{Some, None}
use Rattle.window.specs.Window.{interference, most_window, window_of}
use Rattle.window.proofs.BurstWindows.{burst_one, burst_least, burst_none}

-- no number from s on and below t is a window
abbrev pub Tried : (ℕ → ℕ) → ℕ → ℕ → Type 0
Tried I s t = (k : ℕ) → s ≤ k → k < t → k ≤ I k

-- t is the least window of the n numbers from s on
pub record Least (I : ℕ → ℕ) (n s t : ℕ) : Type 0 where
  pub from : s ≤ t
  pub to : t < s + n
  pub free : I t < t
  pub tried : Tried I s t

-- T is 1..65,535, I(T) < T, and t ≤ I(t) for every smaller t
pub window_least : (p : Plan) (f T : ℕ) → window_of p f ≡ Some T → Least (interference p f) most_window 1 T
window_least p f T e =
    let one = burst_least p f 1 T (burst_one p f ∙ e) in
    record { from = one.from; to = one.to; free = omega (arith, one.free); tried = λ k l m. omega (arith, one.tried k l m) }

-- where t ≤ I(t) for every t of 1..65,535 there is no window
pub window_none : (p : Plan) (f : ℕ) → Tried (interference p f) 1 (1 + most_window) → window_of p f ≡ None
window_none p f h = sym (burst_one p f) ∙ burst_none p f 1 (λ k l m. omega (arith, h k l m))
