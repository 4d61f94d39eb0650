-- A flow's offsets, port and client (01, Torus and plan file; One cycle, rule 3).
use Rattle.std.specs.Prelude.{Bool, true, false, cond, ◌&&◌, ℕ, ltb, eqb}
use Rattle.flow.specs.declared.Flow.{Flow}
use Rattle.flow.specs.declared.Port.{Port}
use Rattle.flow.specs.declared.Port.TheVariants.{East, South}
use Rattle.torus.specs.Axis.{offset}

-- ΔX = (xd − xs) mod Sx
abbrev pub ΔX : ℕ → Flow → ℕ
ΔX sx f = offset sx f.xs f.xd

-- ΔY = (yd − ys) mod Sy
abbrev pub ΔY : ℕ → Flow → ℕ
ΔY sy f = offset sy f.ys f.yd

-- a flow's port is E if ΔX > 0, else S
abbrev pub port_of : ℕ → Flow → Port
port_of sx f = cond (ltb 0 (ΔX sx f)) East South

-- two flows of one client: the same source router
abbrev pub same_client : Flow → Flow → Bool
same_client f g = eqb f.xs g.xs && eqb f.ys g.ys

-- the two ports are one
abbrev pub same_port : Port → Port → Bool
same_port East East = true
same_port East South = false
same_port South East = false
same_port South South = true
