-- Rules 1 to 3 of 01's One cycle (001, Table I): where each packet of a router goes, which ports are open, and who enters.
-- They speak of what a router sees; the packet book feeds it from lines, the cycle from registers.
use Rattle.std.specs.Prelude.{Bool, true, false, cond, not, ◌&&◌, ℕ, eqb, length}
use Rattle.std.proofs.Math.Option.{Option, none, some}
use Rattle.laws.specs.Bounded.{first_below}
use Rattle.flow.specs.declared.Flow.{Flow}
use Rattle.flow.specs.declared.Port.{Port}
use Rattle.flow.specs.declared.Port.TheVariants.{East, South}
use Rattle.flow.specs.Offsets.{port_of, same_port}
use Rattle.flow.specs.Plan.{Plan, flow_at}
use Rattle.place.specs.Place.{Place, W, N, column_of, row_of}

-- the flow of the packet in each register of a router, where there is one
pub record Seen : Type 0 where
  pub west : Option Flow
  pub north : Option Flow

abbrev pub no_packet : Option Flow → Bool
no_packet none = true
no_packet (some f) = false

-- Rule 1. A W packet in column x goes S if its column is xd ..
unfoldable pub turns_south : (x : ℕ) → Option Flow → Bool
turns_south x none = false
turns_south x (some f) = eqb x f.xd

-- .. else E. An N packet goes S, but E if W goes S. Here the packet in that register is of flow f
abbrev pub port_from : Seen → Place → Flow → Port
port_from s (W x y) f = cond (eqb x f.xd) South East
port_from s (N x y) f = cond (turns_south x s.west) East South

-- one deflection more: an N packet goes E
abbrev pub deflects : Seen → Place → Bool
deflects s (W x y) = false
deflects s (N x y) = turns_south x s.west

-- a way out of a router: by a port to the register that it reaches, or by the exit
pub data Way : Type 0 where
  via : Port → Way
  leave : Way

abbrev pub same_way : Way → Way → Bool
same_way (via o) (via o') = same_port o o'
same_way (via o) leave = false
same_way leave (via o) = false
same_way leave leave = true

-- column x and row y are the flow's destination
abbrev pub at_home : (x y : ℕ) → Flow → Bool
at_home x y f = eqb x f.xd && eqb y f.yd

-- Rule 2. S at the packet's destination is the exit
abbrev pub way_by : (x y : ℕ) → Flow → Port → Way
way_by x y f East = via East
way_by x y f South = cond (at_home x y f) leave (via South)

-- the way of the packet of flow f in a register
abbrev pub way_from : Seen → Place → Flow → Way
way_from s at f = way_by (column_of at) (row_of at) f (port_from s at f)

abbrev pub held_in : Seen → Place → Option Flow
held_in s (W x y) = s.west
held_in s (N x y) = s.north

abbrev pub taken_by : Seen → Place → Way → Option Flow → Bool
taken_by s at o none = false
taken_by s at o (some f) = same_way (way_from s at f) o

-- the packet in a register takes this way out
unfoldable pub takes : Seen → Place → Way → Bool
takes s at o = taken_by s at o (held_in s at)

-- Rule 3. E is open if W is empty. S is open if N is empty and W isn't going S
unfoldable pub is_open : Seen → (x : ℕ) → Port → Bool
is_open s x East = no_packet s.west
is_open s x South = no_packet s.north && not (turns_south x s.west)

-- what rule 3 asks of all flows and routers: flow f has a waiting packet, it has a token, and what each router sees
pub record View : Type 0 where
  pub waits : (f : ℕ) → Bool
  pub token : (f : ℕ) → Bool
  pub seen : (x y : ℕ) → Seen

-- a waiting packet, a token and an open port
unfoldable pub ready : Plan → View → ℕ → Bool
ready p v f =
    let φ : Flow = flow_at p f in
    v.waits f && v.token f && is_open (v.seen φ.xs φ.ys) φ.xs (port_of p.sx φ)

-- flow f's client is that of the router in column x and row y
abbrev pub is_client : Plan → (x y : ℕ) → ℕ → Bool
is_client p x y f = eqb x (flow_at p f).xs && eqb y (flow_at p f).ys

-- the lowest-numbered flow of that client with these, among the flows below n
abbrev pub entrant_below : Plan → View → (x y n : ℕ) → Option ℕ
entrant_below p v x y n = first_below n (λ f. is_client p x y f && ready p v f)

-- among all flows: it enters
abbrev pub entrant : Plan → View → (x y : ℕ) → Option ℕ
entrant p v x y = entrant_below p v x y (length p.flows)

abbrev pub is_flow : ℕ → Option ℕ → Bool
is_flow f none = false
is_flow f (some g) = eqb g f

-- flow f enters
unfoldable pub enters : Plan → View → ℕ → Bool
enters p v f = is_flow f (entrant p v (flow_at p f).xs (flow_at p f).ys)

-- the way of a packet of flow f that enters
abbrev pub way_in : Plan → ℕ → Way
way_in p f = way_by (flow_at p f).xs (flow_at p f).ys (flow_at p f) (port_of p.sx (flow_at p f))
