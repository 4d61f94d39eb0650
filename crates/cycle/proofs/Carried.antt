-- What a way out of a router carries in a cycle of any state whose numbers fit: a packet of a flow of the plan, and its path leads it
-- there (01, One cycle, rules 1 to 3). Rests on the router's laws of paths and of who enters.
use mathlib.Core.Bool.{Bool, true, false}
use mathlib.Core.Logic.{inl, inr}
use mathlib.Core.Option.{Option}
use mathlib.Core.Path.{◌≡◌, refl, sym, ap, subst, ◌∙◌}
use Prim.Native.Nat.{ℕ, ◌+◌, ◌-◌, ◌≤◌, ◌<◌}
use native.Mathlib.Nat.{add-zero}
use native.Mathlib.Omega.{arith}
use borrow.Author.Tests.{eq-eqb, ltb-true, leb-true}
use lib.ListN.{length}
use Rattle.laws.specs.Count.{one}
use Rattle.laws.proofs.Cases.{test, and_true, both_eqb}
use Rattle.flow.specs.Plan.{Plan, flow_at}
use Rattle.place.specs.Place.{Place, W, N, column_of, row_of}
use Rattle.place.specs.InPlace.{is_in_place}
use Rattle.router.specs.Rule.{Seen, deflects, Way, same_way, way_from, held_in, takes, is_flow, entrant, way_in}
use Rattle.router.proofs.Rule.{way_same, takes_own}
use Rattle.router.proofs.Limit.{every_row, every_rising}
use Rattle.router.proofs.Path.{every_bends, Arrives, step_placed, step_entry}
use Rattle.router.proofs.InPlace.{in_place_path}
use Rattle.router.proofs.Entrant.{Found, no_entrant, has_entrant, found, enters_at}
use Rattle.state.specs.Register.{Register, packet_with}
use Rattle.std.specs.Prelude.{Some, None}
use Rattle.state.specs.State.{State, tally_at, cell_at}
use Rattle.state.proofs.Formed.{register_ok, StateOk}
use Rattle.cycle.specs.Seen.{shown, seen, view, enters}
use Rattle.cycle.specs.Step.{onward, sends_by, sent_by, carried, next_tally}

module _ (s : State) where
  abbrev p : Plan
  p = s.plan

  -- a packet that takes this way out of the router in column x and row y
  pub record Routed (x y : ℕ) (o : Way) (flow serial entry D : ℕ) : Type 0 where
    pub flow_below : flow < length p.flows
    pub serial_least : 1 ≤ serial
    pub serial_most : serial ≤ (next_tally s flow).entered
    pub arrives : Arrives p (flow_at p flow) every_row s.clock D entry x y o

  -- such a packet, or none
  abbrev pub Carries : (x y : ℕ) → Way → Register → Type 0
  Carries x y o None = Unit {0}
  Carries x y o (Some packet) = Routed x y o packet.flow packet.serial packet.entry packet.deflections

  -- a deflection is counted
  onward_carries : (x y : ℕ) (o : Way) (d : Bool) (flow serial entry D : ℕ) → Routed x y o flow serial entry (D + one d)
      → Carries x y o (onward d (Some (packet_with flow serial entry D)))
  onward_carries x y o true flow serial entry D h = h
  onward_carries x y o false flow serial entry D h = rw add-zero at h

  none_carries : (x y : ℕ) (o : Way) (d : Bool) → Carries x y o (onward d None)
  none_carries x y o true = tt
  none_carries x y o false = tt

  -- a packet in a register, whose numbers fit
  record Held (at : Place) (flow serial entry D : ℕ) : Type 0 where
    flow_below : flow < length p.flows
    serial_least : 1 ≤ serial
    serial_most : serial ≤ (tally_at s flow).entered
    before : entry < s.clock
    in_place : is_in_place p.sx p.sy (flow_at p flow) at D (s.clock - entry) ≡ true

  held : (at : Place) (flow serial entry D : ℕ) → register_ok s at (Some (packet_with flow serial entry D)) ≡ true → Held at flow serial entry D
  held at flow serial entry D e =
      let all = and_true _ _ e in
      let front = and_true _ _ all.0 in
      let serials = and_true _ _ front.1 in
      let place = and_true _ _ all.1 in
      record {
        flow_below = ltb-true _ _ front.0;
        serial_least = leb-true 1 _ serials.0;
        serial_most = leb-true _ _ serials.1;
        before = ltb-true _ _ place.0;
        in_place = place.1;
      }

  module _ (ok : StateOk s) where
    -- the packet of a register goes on
    moved : (v : Seen) (at : Place) → column_of at < p.sx → row_of at < p.sy → (o : Way) (r : Register) → register_ok s at r ≡ true
        → held_in v at ≡ shown p r → takes v at o ≡ true → Carries (column_of at) (row_of at) o (onward (deflects v at) r)
    unfolding next_tally
    moved v at column row o None e shows t = none_carries _ _ o (deflects v at)
    moved v at column row o (Some packet) e shows t =
        let h = held at packet.flow packet.serial packet.entry packet.deflections e in
        let φ = flow_at p packet.flow in
        let fits = ok.plan_ok.flow_ok packet.flow h.flow_below in
        let path = in_place_path p φ fits s.clock packet.deflections packet.entry at column row h.before h.in_place in
        let way : way_from v at φ ≡ o = way_same _ o (sym (takes_own v at φ o shows) ∙ t) in
        onward_carries _ _ o (deflects v at) packet.flow packet.serial packet.entry packet.deflections
        (record {
          flow_below = h.flow_below;
          serial_least = h.serial_least;
          serial_most = omega (arith, h.serial_most);
          arrives = subst (Arrives p φ every_row s.clock (packet.deflections + one (deflects v at)) packet.entry (column_of at) (row_of at)) way
              (step_placed p φ every_row fits every_rising v s.clock packet.deflections packet.entry at path (every_bends p φ v s.clock packet.deflections packet.entry at path)).sound;
        })

    -- a client's packet comes in
    client : (x y : ℕ) (o : Way) → Carries x y o (sends_by s o (entrant p (view s) x y))
    unfolding sends_by next_tally enters
    client x y o = by_entrant refl (found p (view s) x y)
      where
        by_entrant : {who : Option ℕ} → entrant p (view s) x y ≡ who → Found p (view s) x y who → Carries x y o (sends_by s o who)
        by_entrant e (no_entrant low) = tt
        by_entrant e (has_entrant f h) =
            let fits = ok.plan_ok.flow_ok f h.below in
            let at = both_eqb x (flow_at p f).xs y (flow_at p f).ys h.column h.row in
            let comes = enters_at p (view s) x y f at ∙ ap (is_flow f) e ∙ eq-eqb f f refl in
            elim (test (same_way (way_in p f) o)) [
              | inl way ↦
                  rw way
                  (record {
                    flow_below = h.below;
                    serial_least = omega arith;
                    serial_most = rw comes (omega arith);
                    arrives = rw (h.column, h.row, ← (way_same (way_in p f) o way)) (step_entry p (flow_at p f) every_row fits s.clock).sound;
                  })
              | inr other ↦ rw other tt
            ]

    pub carried_routed : (x y : ℕ) → x < p.sx → y < p.sy → (o : Way) → Carries x y o (carried s x y o)
    unfolding carried sent_by
    carried_routed x y lx ly o =
        elim (test (takes (seen s x y) (W x y) o)) [
          | inl w ↦ rw w (moved (seen s x y) (W x y) lx ly o (cell_at s x y).west (ok.west_ok x y lx ly) refl w)
          | inr w ↦ elim (test (takes (seen s x y) (N x y) o)) [
            | inl n ↦ rw (w, n) (moved (seen s x y) (N x y) lx ly o (cell_at s x y).north (ok.north_ok x y lx ly) refl n)
            | inr n ↦ rw (w, n) (client x y o)
          ]
        ]
