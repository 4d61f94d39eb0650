-- The packet that takes each way out of a router is the one that the code sends: what goes E, what goes S, and of that what exits.
-- Rests on specs/Sent and the rule's law of who enters.
use mathlib.Core.Bool.{Bool, true, false, not, cond, false≢true}
use mathlib.Core.Logic.{inl, inr}
use mathlib.Core.Option.{Option}
use mathlib.Core.Path.{◌≡◌, refl, sym, ap, ◌∙◌}
use Prim.Native.Nat.{ℕ}
use lib.Dec.{eqb}
use Rattle.std.specs.Prelude as Prelude
use Rattle.std.specs.Prelude.{Some, None, is_some, is_none}
use Rattle.laws.proofs.Cases.{test}
use Rattle.flow.specs.declared.Port.{Port}
use Rattle.flow.specs.declared.Port.TheVariants.{East, South}
use Rattle.flow.specs.Offsets.{port_of, same_port}
use Rattle.flow.specs.Plan.{Plan, flow_at}
use Rattle.router.specs.Rule.{Seen, no_packet, turns_south, Way, via, leave, same_way, at_home, way_by, takes, is_open}
use Rattle.router.proofs.Entrant.{Found, no_entrant, has_entrant, found, ready_parts}
use Rattle.state.specs.Register.{Register, packet_with}
use Rattle.state.specs.State.{State, cell_at}
use Rattle.cycle.specs.Seen.{shown, seen, view}
use Rattle.cycle.specs.Step.{deflected, entering, sends_by, sent_by, carried, leaving, delivered}
use Rattle.cycle.specs.Sent.{sent_east, sent_south, entering_by, eastward, southward, exits}

-- a register shows no packet where it is empty
pub shows_none : (p : Plan) (r : Register) → no_packet (shown p r) ≡ is_none r
shows_none p None = refl
shows_none p (Some packet) = refl

-- what a call of `is_none` tells
pub none_is : {A : Type 0} (o : Prelude.Option A) (b : Bool) → is_some o ≡ not b → is_none o ≡ b
none_is o true e = rw e
none_is o false e = rw e

-- by a way out, of what goes E and what goes S, where that exits or not
abbrev by : Way → (exit : Bool) → (east south : Register) → Register
by (via East) exit east south = east
by (via South) exit east south = cond exit None south
by leave exit east south = cond exit south None

-- a packet r that goes S, before one that goes E; and one that goes E
south_first : (o : Way) (home : Bool) (r east : Register) → cond (same_way (cond home leave (via South)) o) r (by o false east None) ≡ by o home east r
south_first (via East) true r east = refl
south_first (via East) false r east = refl
south_first (via South) true r east = refl
south_first (via South) false r east = refl
south_first leave true r east = refl
south_first leave false r east = refl

east_first : (o : Way) (exit : Bool) (r east south : Register) → cond (same_way (via East) o) r (by o exit east south) ≡ by o exit r south
east_first (via East) exit r east south = refl
east_first (via South) exit r east south = refl
east_first leave exit r east south = refl

nothing : (o : Way) → by o false None None ≡ None
nothing (via East) = refl
nothing (via South) = refl
nothing leave = refl

module _ (p : Plan) (x y : ℕ) where
  abbrev out : Way → (east south : Register) → Register
  out o east south = by o (exits p x y south) east south

  abbrev sees : (west north : Register) → Seen
  sees west north = record { west = shown p west; north = shown p north }

  -- the packets of W and N, and what the client sends, which is nothing by a port that isn't open
  sent : (west north east south : Register) → (is_open (sees west north) x East ≡ false → east ≡ None)
      → (is_open (sees west north) x South ≡ false → south ≡ None) → (o : Way)
      → sent_by (sees west north) x y o west north (out o east south)
      ≡ out o (sent_east (turns_south x (shown p west)) west north east) (sent_south (turns_south x (shown p west)) west north south)
  unfolding sent_by takes turns_south is_open exits
  sent None None east south he hs o = refl
  sent None (Some packet) east south he hs o = rw (hs refl) (south_first o (at_home x y (flow_at p packet.flow)) (Some packet) east)
  sent (Some packet) None east south he hs o =
      elim (test (eqb x (flow_at p packet.flow).xd)) [
        | inl t ↦ rw (he refl, hs (rw t), t) (south_first o (at_home x y (flow_at p packet.flow)) (Some packet) None)
        | inr t ↦ rw t (east_first o (exits p x y south) (Some packet) east south)
      ]
  sent (Some first) (Some second) east south he hs o =
      elim (test (eqb x (flow_at p first.flow).xd)) [
        | inl t ↦
            rw (he refl, hs refl, t, east_first o false (deflected (Some second)) None None)
            (south_first o (at_home x y (flow_at p first.flow)) (Some first) (deflected (Some second)))
        | inr t ↦
            rw (hs refl, t, south_first o (at_home x y (flow_at p second.flow)) (Some second) east)
            (east_first o (at_home x y (flow_at p second.flow)) (Some first) east (Some second))
      ]

  -- a packet that enters by port q
  entered : (q : Port) (o : Way) (f serial clock : ℕ) → let r = Some (packet_with f serial clock 0) in
      cond (same_way (way_by x y (flow_at p f) q) o) r None ≡ out o (cond (same_port q East) r None) (cond (same_port q South) r None)
  unfolding exits
  entered East o f serial clock = ap (cond (same_way (via East) o) _) (sym (nothing o)) ∙ east_first o false (Some (packet_with f serial clock 0)) None None
  entered South o f serial clock =
      ap (cond (same_way (way_by x y (flow_at p f) South) o) _) (sym (nothing o)) ∙ south_first o (at_home x y (flow_at p f)) (Some (packet_with f serial clock 0)) None

-- by another port than an open one that is shut, nothing enters
shut : (v : Seen) (x : ℕ) (q o : Port) (r : Register) → is_open v x q ≡ true → is_open v x o ≡ false → cond (same_port q o) r None ≡ None
shut v x East East r h k = absurd (false≢true (sym k ∙ h))
shut v x East South r h k = refl
shut v x South East r h k = refl
shut v x South South r h k = absurd (false≢true (sym k ∙ h))

module _ (s : State) (x y : ℕ) where
  abbrev Here : Option ℕ → Type 0
  Here = Found s.plan (view s) x y

  -- what the client sends by each way, and by each port
  client_by : (o : Way) {who : Option ℕ} → Here who
      → sends_by s o who ≡ out s.plan x y o (entering_by s East who) (entering_by s South who)
  unfolding sends_by entering_by exits
  client_by o (no_entrant none_ready) = sym (nothing o)
  client_by o (has_entrant f e) =
      rw (e.column, e.row) (entered s.plan _ _ (port_of s.plan.sx (flow_at s.plan f)) o f _ _)

  client_shut : (o : Port) {who : Option ℕ} → Here who → is_open (seen s x y) x o ≡ false → entering_by s o who ≡ None
  unfolding entering_by
  client_shut o (no_entrant none_ready) h = refl
  client_shut o (has_entrant f e) h =
      let opened = (ready_parts s.plan (view s) f e.is_ready).opened in
      shut _ _ (port_of s.plan.sx (flow_at s.plan f)) o (entering s f) opened (rw (e.column, e.row) at h)

  carried_is : (o : Way) → carried s x y o ≡ out s.plan x y o (eastward s x y) (southward s x y)
  unfolding carried eastward southward
  carried_is o =
      let who = found s.plan (view s) x y in
      rw (client_by o who) (sent s.plan x y (cell_at s x y).west (cell_at s x y).north _ _ (client_shut East who) (client_shut South who) o)

  -- what the code sends E, sends S and delivers
  pub east_is : carried s x y (via East) ≡ eastward s x y
  east_is = carried_is (via East)

  pub south_is : carried s x y (via South) ≡ cond (exits s.plan x y (southward s x y)) None (southward s x y)
  south_is = carried_is (via South)

  pub exit_is : carried s x y leave ≡ cond (exits s.plan x y (southward s x y)) (southward s x y) None
  exit_is = carried_is leave

  pub delivered_is : delivered s x y ≡ leaving s.clock (cond (exits s.plan x y (southward s x y)) (southward s x y) None)
  unfolding delivered
  delivered_is = rw exit_is
