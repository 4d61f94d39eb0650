-- The interference I(t), the least window T, a burst's window B and the lone wait (01, Windows; 02, U3, U8, U9).
use Rattle.std.specs.Prelude.{Bool, cond, ◌≡◌, ℕ, zero, suc, ◌+◌, ◌-◌, ltb, leb, eqb, length, Option, Some, None}
use Rattle.laws.specs.Bounded.{sum_below}
use Rattle.flow.specs.declared.Flow.{Flow}
use Rattle.flow.specs.Plan.{Plan, flow_at}
use Rattle.bucket.specs.Curve.{curve}
use Rattle.conflict.specs.Conflict.{Conflict}
use Rattle.conflict.specs.Conflict.{conflict}

-- the window of a flow or of a burst, or that there is none
abbrev pub Window : Type 0
Window = Option ℕ

-- what g adds to I(t): its curve at t − 1 + J, if it conflicts with spread J
unfoldable pub share : Flow → ℕ → Conflict → ℕ
share g t None = 0
share g t (Some J) = curve g.burst g.period (t - 1 + J)

-- what flow number g adds to I(t) of flow number f; a flow doesn't conflict with itself
unfoldable pub share_of : Plan → ℕ → ℕ → ℕ → ℕ
share_of p f t g = cond (eqb g f) 0 (share (flow_at p g) t (conflict p (flow_at p f) (flow_at p g)))

-- I(t) sums over the flows that conflict with f
unfoldable pub interference : Plan → ℕ → ℕ → ℕ
interference p f t = sum_below (length p.flows) (share_of p f t)

-- windows run from 1 to 65,535
abbrev pub most_window : ℕ
most_window = 65535

-- the least t of the n numbers from t on with I t < t
unfoldable pub least_from : (ℕ → ℕ) → ℕ → ℕ → Window
least_from I zero t = None
least_from I (suc n) t = let later = least_from I n (t + 1) in cond (ltb (I t) t) (Some t) later

-- the least of the n numbers from t on that passes the test, or Nothing where none does
unfoldable pub least_that : (ℕ → Bool) → ℕ → ℕ → Window
least_that passes zero t = None
least_that passes (suc n) t = let later = least_that passes n (t + 1) in cond (passes t) (Some t) later

-- the least window t from 1 to 65,535 that passes the test, or Nothing
abbrev pub least_window : (ℕ → Bool) → Window
least_window passes = least_that passes most_window 1

-- T is the least window t from 1 to 65,535 with I(t) < t
unfoldable pub window_of : Plan → ℕ → Window
window_of p f = least_from (interference p f) most_window 1

-- 02, U9: "For k from 1 to σ, let B be the least window t up to 65,535 with I(t) + k ≤ t."
unfoldable pub burst_window_of : Plan → (f k : ℕ) → Window
burst_window_of p f k = least_window (λ t. leb (interference p f t + k) t)

-- "B for k = 1 is T."
abbrev pub BurstOfOne : Type 0
BurstOfOne = (p : Plan) (f : ℕ) → burst_window_of p f 1 ≡ window_of p f

-- a lone packet waits at most P + T − 2
abbrev pub lone_wait : Flow → ℕ → ℕ
lone_wait f T = f.period + T - 2
