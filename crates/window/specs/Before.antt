-- Windows by 01's own conflicts and spreads, with U3's curve: what "No window may grow through this" compares with (02, U8).
use Rattle.std.specs.Prelude.{cond, ◌&&◌, ◌≡◌, ℕ, ◌-◌, ◌*◌, ◌≤◌, leb, eqb, length}
use Rattle.laws.specs.Bounded.{sum_below}
use Rattle.flow.specs.declared.Flow.{Flow}
use Rattle.flow.specs.declared.Port.TheVariants.{East}
use Rattle.flow.specs.Offsets.{ΔX, ΔY, port_of, same_client, same_port}
use Rattle.flow.specs.Plan.{Plan, flow_at}
use Rattle.conflict.specs.Conflict.{Conflict}
use Rattle.std.specs.Prelude.{Some, None}
use Rattle.conflict.specs.Conflict.{rows_to, columns_to}
use Rattle.window.specs.Window.{Window}
use Rattle.window.specs.Window.{share, least_from, most_window, window_of}

-- f's port is E and g's client is another: "r = 0 and 1 ≤ (x − xs of g) mod Sx ≤ ΔX of g, J = 0; or 1 ≤ r ≤ ΔY of g, J = (r−1)×Sx"
unfoldable pub east_before : ℕ → ℕ → Flow → Flow → Conflict
east_before sx sy f g =
    cond (eqb (rows_to sy f g) 0)
    (cond (leb 1 (columns_to sx f g) && leb (columns_to sx f g) (ΔX sx g)) (Some 0) None)
    (cond (leb (rows_to sy f g) (ΔY sy g)) (Some ((rows_to sy f g - 1) * sx)) None)

-- f's port is S, g's client is another, "xd of g is x and r ≤ ΔY of g: J = r×Sx"
unfoldable pub south_before : ℕ → ℕ → Flow → Flow → Conflict
south_before sx sy f g =
    cond (eqb g.xd f.xs && leb (rows_to sy f g) (ΔY sy g)) (Some (rows_to sy f g * sx)) None

-- how g, a flow other than f, conflicts with f at f's source
unfoldable pub conflict_before : ℕ → ℕ → Flow → Flow → Conflict
conflict_before sx sy f g =
    cond (same_client f g) (Some 0)
    (cond (same_port (port_of sx f) East) (east_before sx sy f g) (south_before sx sy f g))

-- what flow number g adds to I(t) of flow number f
unfoldable pub share_before : Plan → ℕ → ℕ → ℕ → ℕ
share_before p f t g = cond (eqb g f) 0 (share (flow_at p g) t (conflict_before p.sx p.sy (flow_at p f) (flow_at p g)))

-- I(t) sums over the flows that conflict with f
unfoldable pub interference_before : Plan → ℕ → ℕ → ℕ
interference_before p f t = sum_below (length p.flows) (share_before p f t)

-- the least window t from 1 to 65,535 with I(t) < t
unfoldable pub window_before : Plan → ℕ → Window
window_before p f = least_from (interference_before p f) most_window 1

-- no window grows: for every plan and flow, where these conflicts and spreads give a T, those of the turning rows give one that is no larger
abbrev pub NoWindowGrows : Type 0
NoWindowGrows = (p : Plan) (f before : ℕ) → window_before p f ≡ Some before → (T : ℕ) × ((window_of p f ≡ Some T) × (T ≤ before))
