-- What the words of a state give to one cycle: room, flows in range, few deflections. Rests on the facts of state.
use mathlib.Core.Bool.{true}
use mathlib.Core.List.{List}
use mathlib.Core.Path.{◌≡◌, refl}
use Prim.Native.Nat.{ℕ, ◌+◌, ◌-◌, ◌*◌, ◌≤◌, ◌<◌}
use native.Mathlib.Nat.{mul-le-mul}
use native.Mathlib.Omega.{arith}
use lib.ListN.{length}
use Rattle.flow.specs.Plan.{most_size, flow_at}
use Rattle.flow.specs.Ranges.{FlowOk}
use Rattle.place.specs.Place.{Place, W, N}
use Rattle.place.proofs.InPlace.{north_deflected}
use Rattle.state.specs.Register.{Register}
use Rattle.std.specs.Prelude.{Some, None, IfSome}
use Rattle.state.specs.Layout.{register_size, router_size, flow_place}
use Rattle.state.specs.Inner.{most_routers, flow_of}
use Rattle.state.specs.State.{tally_at, cell_at}
use Rattle.state.specs.Read.{sx_in, sy_in, count_in, clock_in, flow_in, register_in, router_in, state_of}
use Rattle.state.specs.Forms.{register_fits}
use Rattle.state.specs.Facts.{TallyFacts, StateFacts}
use Rattle.state.proofs.Forms.{packet_facts}
use Rattle.state.proofs.View.{view_flow, view_tally, view_cell}
use Rattle.state.proofs.Words.{router_below}
use Rattle.cycle.specs.Sent.{deflections_of}

-- the packet of a register, where it holds one
pub packet_below : {n : ℕ} (r : Register) → flow_of r < n → IfSome r (λ p. p.flow < n)
packet_below None h = tt
packet_below (Some packet) h = h

module _ (w : List ℕ) (s : StateFacts w) where
  -- a router's registers lie in the memory
  pub router_fits : (x y : ℕ) → x < sx_in w → y < sy_in w → router_in w x y + router_size ≤ length w
  router_fits x y h k =
      let long = s.long in
      omega (arith, router_below (count_in w) (sx_in w) (sy_in w) x y h k)

  -- at most 256 routers
  pub cells_most : sx_in w * sy_in w ≤ most_routers
  cells_most = mul-le-mul s.header.sx_ok.most s.header.sy_ok.most

  -- flow f's numbers and tally are in their ranges
  pub flow_ok : (f : ℕ) → f < count_in w → FlowOk (sx_in w) (sy_in w) (flow_at (state_of w).plan f)
  unfolding state_of
  flow_ok f h = rw (view_flow w f h) (s.flow f h).numbers

  pub tally_ok : (f : ℕ) → f < count_in w → TallyFacts (clock_in w) (flow_at (state_of w).plan f) (tally_at (state_of w) f)
  unfolding state_of
  tally_ok f h = rw (view_tally w f h, view_flow w f h) (s.flow f h).tally

  -- the flow of a register's packet is one of the plan
  flow_below : (place : Place) (at : ℕ) → register_fits w place at ≡ true → flow_of (register_in w at) < count_in w
  flow_below place at e = of (register_in w at) refl
    where
      of : (r : Register) → register_in w at ≡ r → flow_of r < count_in w
      of None q = s.header.count_least
      of (Some packet) q = (packet_facts w place at e packet.flow packet.serial packet.entry packet.deflections q).flow_below

  module _ (x y : ℕ) (h : x < sx_in w) (k : y < sy_in w) where
    pub west_flow : flow_of (cell_at (state_of w) x y).west < count_in w
    west_flow = rw (view_cell w x y h k) (flow_below (W x y) (router_in w x y) (s.west x y h k))

    pub north_flow : flow_of (cell_at (state_of w) x y).north < count_in w
    north_flow = rw (view_cell w x y h k) (flow_below (N x y) (router_in w x y + register_size) (s.north x y h k))

    -- a packet in N has been deflected in fewer rows than there are
    pub north_deflections : deflections_of (cell_at (state_of w) x y).north < most_size
    north_deflections = rw (view_cell w x y h k) (of (register_in w at) refl)
      where
        at : ℕ
        at = router_in w x y + register_size

        of : (r : Register) → register_in w at ≡ r → deflections_of r < most_size
        of None q = omega arith
        of (Some packet) q =
            let p = packet_facts w (N x y) at (s.north x y h k) packet.flow packet.serial packet.entry packet.deflections q in
            let numbers = (s.flow packet.flow p.flow_below).numbers in
            let most = s.header.sy_ok in
            omega (arith, north_deflected (sx_in w) (sy_in w) (flow_in w (flow_place packet.flow)) x y packet.deflections (clock_in w - packet.entry) numbers k p.in_place)
