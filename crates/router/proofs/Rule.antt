-- Laws of rules 1 to 3 in one router: no two packets take one way out, and an open port is one that nobody takes. Rests on specs/Rule.
use mathlib.Core.Bool.{true, false, not, ◌&&◌, false≢true}
use mathlib.Core.Logic.{inl, inr}
use mathlib.Core.Option.{Option, none, some}
use mathlib.Core.Path.{◌≡◌, refl, sym, ap, ◌∙◌}
use Prim.Native.Nat.{ℕ}
use borrow.Author.Tests.{eqb-true, not-true}
use lib.Dec.{eqb}
use Rattle.laws.proofs.Cases.{test, and_true}
use Rattle.flow.specs.declared.Flow.{Flow}
use Rattle.flow.specs.declared.Port.{Port}
use Rattle.flow.specs.declared.Port.TheVariants.{East, South}
use Rattle.flow.specs.Offsets.{same_port}
use Rattle.place.specs.Place.{Place, W, N, column_of, row_of}
use Rattle.router.specs.Rule.{Seen, no_packet, turns_south, port_from, deflects, is_open}
use Rattle.router.specs.Rule.{Way, via, leave, same_way, at_home, way_by, way_from, held_in, taken_by, takes}

pub way_refl : (o : Way) → same_way o o ≡ true
way_refl (via East) = refl
way_refl (via South) = refl
way_refl leave = refl

pub way_same : (a b : Way) → same_way a b ≡ true → a ≡ b
way_same (via East) (via East) h = refl
way_same (via East) (via South) h = absurd (false≢true h)
way_same (via South) (via East) h = absurd (false≢true h)
way_same (via South) (via South) h = refl
way_same (via o) leave h = absurd (false≢true h)
way_same leave (via o) h = absurd (false≢true h)
way_same leave leave h = refl

-- by two ports there are two ways out
ways_apart : (x y : ℕ) (f g : Flow) (a b : Port) → same_port a b ≡ false
    → (o : Way) → same_way (way_by x y f a) o ≡ true → same_way (way_by x y g b) o ≡ false
ways_apart x y f g East East h o t = absurd (false≢true (sym h))
ways_apart x y f g East South h (via East) t = elim (test (at_home x y g)) [ inl e ↦ rw e | inr e ↦ rw e ]
ways_apart x y f g East South h (via South) t = absurd (false≢true t)
ways_apart x y f g East South h leave t = absurd (false≢true t)
ways_apart x y f g South East h (via East) t =
    elim (test (at_home x y f)) [ inl e ↦ absurd (false≢true (rw e at t)) | inr e ↦ absurd (false≢true (rw e at t)) ]
ways_apart x y f g South East h (via South) t = refl
ways_apart x y f g South East h leave t = refl
ways_apart x y f g South South h o t = absurd (false≢true (sym h))

empty_stays : (x : ℕ) (w : Option Flow) → no_packet w ≡ true → turns_south x w ≡ false
unfolding turns_south
empty_stays x none h = refl
empty_stays x (some f) h = absurd (false≢true h)

turns_some : (x : ℕ) (w : Option Flow) → turns_south x w ≡ true → (f : Flow) × (w ≡ some f) × (x ≡ f.xd)
unfolding turns_south
turns_some x none h = absurd (false≢true h)
turns_some x (some f) h = (f, refl, eqb-true x f.xd h)

module _ (s : Seen) (x y : ℕ) where
  -- W's packet and N's go by two ports
  pub ports_apart : (f g : Flow) → s.west ≡ some f → same_port (port_from s (W x y) f) (port_from s (N x y) g) ≡ false
  unfolding turns_south
  ports_apart f g e = rw e (elim (test (eqb x f.xd)) [ inl t ↦ rw t | inr t ↦ rw t ])

  -- N's packet is deflected where it goes E
  pub deflection_is : (f : Flow) → deflects s (N x y) ≡ same_port (port_from s (N x y) f) East
  deflection_is f = elim (test (turns_south x s.west)) [ inl t ↦ rw t | inr t ↦ rw t ]

  -- an open port is neither's
  north_elsewhere : (o : Port) (f : Flow) → is_open s x o ≡ true → s.north ≡ some f → same_port o (port_from s (N x y) f) ≡ false
  unfolding is_open turns_south
  north_elsewhere East f h e = rw (empty_stays x s.west h)
  north_elsewhere South f h e = absurd (false≢true (rw e at h))

  west_elsewhere : (o : Port) (f : Flow) → is_open s x o ≡ true → s.west ≡ some f → same_port o (port_from s (W x y) f) ≡ false
  unfolding is_open turns_south
  west_elsewhere East f h e = absurd (false≢true (rw e at h))
  west_elsewhere South f h e =
      let stays = not-true (turns_south x s.west) (and_true (no_packet s.north) (not (turns_south x s.west)) h).1 in
      rw (rw e at stays)

-- the packet in a register takes its own way
pub takes_own : (s : Seen) (at : Place) (f : Flow) (o : Way) → held_in s at ≡ some f → takes s at o ≡ same_way (way_from s at f) o
unfolding takes
takes_own s at f o e = ap (taken_by s at o) e

takes_none : (s : Seen) (at : Place) (o : Way) → held_in s at ≡ none → takes s at o ≡ false
unfolding takes
takes_none s at o e = ap (taken_by s at o) e

-- it doesn't take a way by another port than its own
elsewhere : (s : Seen) (at : Place) (f : Flow) (o : Port) → ((g : Flow) → held_in s at ≡ some g → same_port o (port_from s at g) ≡ false)
    → (w : Way) → same_way (way_by (column_of at) (row_of at) f o) w ≡ true → takes s at w ≡ false
elsewhere s at f o other w t = pick (held_in s at) refl
  where
    pick : (held : Option Flow) → held_in s at ≡ held → takes s at w ≡ false
    pick none e = takes_none s at w e
    pick (some g) e = takes_own s at g w e ∙ ways_apart (column_of at) (row_of at) f g o (port_from s at g) (other g e) w t

module _ (s : Seen) (x y : ℕ) where
  -- what W's packet takes, N's doesn't
  pub north_yields : (o : Way) → takes s (W x y) o ≡ true → takes s (N x y) o ≡ false
  north_yields o t = pick s.west refl
    where
      pick : (held : Option Flow) → s.west ≡ held → takes s (N x y) o ≡ false
      pick none e = absurd (false≢true (sym (takes_none s (W x y) o e) ∙ t))
      pick (some f) e =
          elsewhere s (N x y) f (port_from s (W x y) f) (λ g h. ports_apart s x y f g e) o (sym (takes_own s (W x y) f o e) ∙ t)

  -- neither takes the way by an open port
  pub open_west : (o : Port) (f : Flow) → is_open s x o ≡ true → takes s (W x y) (way_by x y f o) ≡ false
  open_west o f h = elsewhere s (W x y) f o (λ g e. west_elsewhere s x y o g h e) (way_by x y f o) (way_refl (way_by x y f o))

  pub open_north : (o : Port) (f : Flow) → is_open s x o ≡ true → takes s (N x y) (way_by x y f o) ≡ false
  open_north o f h = elsewhere s (N x y) f o (λ g e. north_elsewhere s x y o g h e) (way_by x y f o) (way_refl (way_by x y f o))

-- the packet of flow g in a register closes a port of its router: E by being in W, S by going there
abbrev pub Closes : Seen → Flow → Place → Port → Type 0
Closes s g (W x y) East = Unit {0}
Closes s g (N x y) East = ⊥
Closes s g (W x y) South = x ≡ g.xd
Closes s g (N x y) South = turns_south x s.west ≡ false

-- a closed port is closed by a packet
pub data Closed (s : Seen) (x y : ℕ) (o : Port) : Type 0 where
  by_west : (g : Flow) → s.west ≡ some g → Closes s g (W x y) o → Closed s x y o
  by_north : (g : Flow) → s.north ≡ some g → Closes s g (N x y) o → Closed s x y o

module _ (s : Seen) (x y : ℕ) where
  south_closed : turns_south x s.west ≡ false → (north : Option Flow) → s.north ≡ north → no_packet north && true ≡ false → Closed s x y South
  south_closed clear none e shut = absurd (false≢true (sym shut))
  south_closed clear (some g) e shut = by_north g e clear

  pub closed : (o : Port) → is_open s x o ≡ false → Closed s x y o
  unfolding is_open
  closed East shut = held s.west refl shut
    where
      held : (west : Option Flow) → s.west ≡ west → no_packet west ≡ false → Closed s x y East
      held none e h = absurd (false≢true (sym h))
      held (some g) e h = by_west g e tt
  closed South shut =
      elim (test (turns_south x s.west)) [
        | inl turn ↦ let g = turns_some x s.west turn in by_west g.0 g.1 g.2
        | inr clear ↦ south_closed clear s.north refl (rw clear at shut)
      ]
