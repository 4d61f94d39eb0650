-- Which flows conflict with f at its source, and with what spread J (01, Windows; 02, U8).
use Rattle.std.specs.Prelude.{Bool, cond, ◌&&◌, ℕ, ◌-◌, ◌*◌, leb, eqb, Option, Some, None}
use Rattle.torus.specs.Axis.{offset}
use Rattle.flow.specs.declared.Flow.{Flow}
use Rattle.flow.specs.declared.Port.TheVariants.{East}
use Rattle.flow.specs.Offsets.{ΔX, ΔY, port_of, same_client, same_port}
use Rattle.flow.specs.Plan.{Plan}
use Rattle.turning.specs.Turning.{is_turning, rows_south}

-- how a flow meets another at its source: not at all, or in conflict with the spread J
abbrev pub Conflict : Type 0
Conflict = Option ℕ

-- r = (y − ys of g) mod Sy, at f's source in row y
abbrev pub rows_to : ℕ → Flow → Flow → ℕ
rows_to sy f g = offset sy g.ys f.ys

-- (x − xs of g) mod Sx, at f's source in column x
abbrev pub columns_to : ℕ → Flow → Flow → ℕ
columns_to sx f g = offset sx g.xs f.xs

-- "Sx × the turning rows among the first r rows south of g's source"
abbrev pub laps : (sx sy : ℕ) (turns : ℕ → Bool) → Flow → (r : ℕ) → ℕ
laps sx sy turns g r = rows_south sy turns g.ys r * sx

-- f's port is E and g's client is another: r = 0 and 1 ≤ (x − xs of g) mod Sx ≤ ΔX of g, J = 0; or 1 ≤ r ≤ ΔY of g, with the laps
-- "among the first r−1 for E, and an E conflict with r ≥ 1 needs row r to turn for g's column": row r is f's own row, and g's column
-- is its destination's
unfoldable pub conflict_east : (sx sy : ℕ) (turns : ℕ → Bool) → Flow → Flow → Conflict
conflict_east sx sy turns f g =
    cond (eqb (rows_to sy f g) 0)
    (cond (leb 1 (columns_to sx f g) && leb (columns_to sx f g) (ΔX sx g)) (Some 0) None)
    (cond (leb (rows_to sy f g) (ΔY sy g) && turns f.ys) (Some (laps sx sy turns g (rows_to sy f g - 1))) None)

-- f's port is S, g's client is another, xd of g is x and r ≤ ΔY of g: the laps "among the first r rows south of g's source for S"
unfoldable pub conflict_south : (sx sy : ℕ) (turns : ℕ → Bool) → Flow → Flow → Conflict
conflict_south sx sy turns f g =
    cond (eqb g.xd f.xs && leb (rows_to sy f g) (ΔY sy g)) (Some (laps sx sy turns g (rows_to sy f g))) None

-- how g, a flow other than f, conflicts with f at f's source, by the rows that turn for g's destination column
unfoldable pub conflict_by : (sx sy : ℕ) (turns : ℕ → Bool) → Flow → Flow → Conflict
conflict_by sx sy turns f g =
    cond (same_client f g) (Some 0)
    (cond (same_port (port_of sx f) East) (conflict_east sx sy turns f g) (conflict_south sx sy turns f g))

-- the same of two flows of a plan
unfoldable pub conflict : Plan → Flow → Flow → Conflict
conflict p f g = conflict_by p.sx p.sy (is_turning p g.xd) f g
