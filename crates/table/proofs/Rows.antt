-- The windows in the table's lines. Rests on the laws of windows.
use mathlib.Core.Path.{◌≡◌}
use Prim.Native.Nat.{ℕ, ◌≤◌}
use native.Mathlib.Omega.{arith}
use Rattle.std.specs.Prelude.{Some}
use Rattle.flow.specs.Plan.{Plan, flow_at}
use Rattle.flow.specs.Ranges.{FlowOk}
use Rattle.window.specs.Window.{window_of, most_window}
use Rattle.window.proofs.Windows.{window_least}
use Rattle.table.specs.Inner.{WaitFits}

-- a window that is found is 1..65,535
pub window_fits : (p : Plan) (f T : ℕ) → window_of p f ≡ Some T → (1 ≤ T) × (T ≤ most_window)
window_fits p f T e =
    let least = window_least p f T e in
    (least.from, omega (arith, least.to))

pub wait_fits : (p : Plan) (f : ℕ) → FlowOk p.sx p.sy (flow_at p f) → WaitFits (flow_at p f) (window_of p f)
wait_fits p f flow =
    record { period_least = flow.period_least; period_most = flow.period_most; window_fits = window_fits p f }
