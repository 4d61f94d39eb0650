-- The flow of what a router sends is one of the plan. Rests on who enters and the facts of a state.
use mathlib.Core.Bool.{Bool, true, false, cond}
use mathlib.Core.List.{List}
use mathlib.Core.Option.{Option}
use Prim.Native.Nat.{ℕ, ◌<◌}
use native.Mathlib.Omega.{arith}
use Rattle.flow.specs.declared.Port.{Port}
use Rattle.flow.specs.declared.Port.TheVariants.{East, South}
use Rattle.flow.specs.Offsets.{port_of, same_port}
use Rattle.flow.specs.Plan.{most_flows, flow_at}
use Rattle.router.specs.Rule.{turns_south, entrant}
use Rattle.router.proofs.Entrant.{Found, no_entrant, has_entrant, found}
use Rattle.state.specs.Register.{Register}
use Rattle.std.specs.Prelude.{Some, None}
use Rattle.std.specs.Option.{option_or}
use Rattle.state.specs.State.{cell_at}
use Rattle.state.specs.Inner.{flow_of}
use Rattle.state.specs.Read.{sx_in, sy_in, count_in, state_of}
use Rattle.state.specs.Facts.{StateFacts}
use Rattle.state.proofs.View.{view_count}
use Rattle.cycle.specs.Seen.{shown, view}
use Rattle.cycle.specs.Step.{deflected}
use Rattle.cycle.specs.Sent.{entering_by, eastward, southward}
use Rattle.cycle.proofs.Facts.{west_flow, north_flow}

module _ (w : List ℕ) where
  abbrev InPlan : Register → Type 0
  InPlan r = flow_of r < count_in w

  either : (a b : Register) (t : Bool) → InPlan a → InPlan b → InPlan (cond t a b)
  either a b true p q = p
  either a b false p q = q

  first : (a b : Register) → InPlan a → InPlan b → InPlan (option_or a b)
  first None b p q = q
  first (Some packet) b p q = p

  once : (a : Register) → InPlan a → InPlan (deflected a)
  once None p = p
  once (Some packet) p = p

  -- who enters is a flow of the plan
  entering_flow : StateFacts w → (port : Port) {x y : ℕ} {who : Option ℕ} → Found (state_of w).plan (view (state_of w)) x y who
      → InPlan (entering_by (state_of w) port who)
  unfolding entering_by state_of
  entering_flow s port (no_entrant unready) = s.header.count_least
  entering_flow s port (has_entrant f e) =
      either _ _ (same_port (port_of (state_of w).plan.sx (flow_at (state_of w).plan f)) port) (rw (view_count w) at e.below) s.header.count_least

module _ (w : List ℕ) (s : StateFacts w) (x y : ℕ) (h : x < sx_in w) (k : y < sy_in w) where
  abbrev west : Register
  west = (cell_at (state_of w) x y).west

  abbrev north : Register
  north = (cell_at (state_of w) x y).north

  abbrev turning : Bool
  turning = turns_south x (shown (state_of w).plan west)

  abbrev client : Port → Register
  client port = entering_by (state_of w) port (entrant (state_of w).plan (view (state_of w)) x y)

  client_flow : (port : Port) → InPlan w (client port)
  client_flow port = entering_flow w s port (found (state_of w).plan (view (state_of w)) x y)

  west_in : InPlan w west
  west_in = west_flow w s x y h k

  north_in : InPlan w north
  north_in = north_flow w s x y h k

  few : (r : Register) → InPlan w r → flow_of r < most_flows
  few r sent = omega (arith, s.header.count_most)

  pub south_sent : flow_of (southward (state_of w) x y) < count_in w
  unfolding southward
  south_sent = either w west _ turning west_in (first w north (client South) north_in (client_flow South))

  -- of what goes E, and of what reaches the register to the south
  pub east_sent : flow_of (eastward (state_of w) x y) < most_flows
  unfolding eastward
  east_sent =
      few (eastward (state_of w) x y)
      (either w (deflected north) _ turning (once w north north_in) (first w west (client East) west_in (client_flow East)))

  pub south_reaches : (exit : Bool) → flow_of (cond exit None (southward (state_of w) x y)) < most_flows
  south_reaches exit =
      few (cond exit None (southward (state_of w) x y)) (either w None (southward (state_of w) x y) exit s.header.count_least south_sent)
