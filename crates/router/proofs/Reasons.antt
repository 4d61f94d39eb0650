-- Laws of why a flow didn't enter: each test of rule 3 that fails gives its reason, the six are complete, and two views that agree
-- give the same. Rests on specs/Reasons and the laws of who enters.
use mathlib.Core.Bool.{true, false, cond, not, ◌&&◌, false≢true}
use mathlib.Core.Logic.{inl, inr}
use mathlib.Core.Option.{Option, none, some}
use mathlib.Core.Path.{◌≡◌, refl, sym, ap, ◌∙◌}
use Prim.Native.Nat.{ℕ, zero, suc, ◌<◌}
use native.Mathlib.Decide.{dec_lt}
use native.Mathlib.Omega.{arith}
use borrow.Author.Tests.{lt-ltb, eqb-true, not-false}
use lib.Dec.{eqb}
use lib.ListN.{length, get_or}
use Rattle.laws.proofs.Bounded.{get_d_tabulate}
use Rattle.laws.proofs.Cases.{test, never}
use Rattle.laws.proofs.Grid.{tabulate_same}
use Rattle.flow.specs.declared.Flow.{Flow}
use Rattle.flow.specs.declared.Port.{Port}
use Rattle.flow.specs.declared.Port.TheVariants.{East, South}
use Rattle.flow.specs.Offsets.{same_port}
use Rattle.flow.specs.Plan.{Plan, flow_at}
use Rattle.flow.specs.Ranges.{PlanOk}
use Rattle.router.specs.declared.Reason.{Reason}
use Rattle.router.specs.declared.Reason.TheVariants.{Entered, NothingWaiting, NoToken, WestHeld, SouthTaken, LowerEntered}
use Rattle.router.specs.Rule.{Seen, no_packet, turns_south, is_open, View, entrant, is_flow, enters}
use Rattle.router.specs.Reasons.{number_of, south_taken, port_for, seen_by, is_lower, applies, reason, reason_words, IsFirst, EveryReason}
use Rattle.router.proofs.Entrant.{Ready, parts_ready, enters_at, entering_ready, some_enters, Agree, enters_same}

-- S is taken by a network packet where it isn't open
south_taken_lem : (s : Seen) (x y : ℕ) → south_taken s x y ≡ not (is_open s x South)
unfolding south_taken is_open turns_south
south_taken_lem s x y = by s.west s.north
  where
    by : (west north : Option Flow) → let s : Seen = record { west = west; north = north } in south_taken s x y ≡ not (is_open s x South)
    by none none = refl
    by none (some g) = refl
    by (some f) none = elim (test (eqb x f.xd)) [ inl t ↦ rw t | inr t ↦ rw t ]
    by (some f) (some g) = elim (test (eqb x f.xd)) [ inl t ↦ rw t | inr t ↦ rw t ]

-- what closes a port: a packet in W closes E, one that takes S closes S
abbrev pub closed_by : Port → Reason
closed_by East = WestHeld
closed_by South = SouthTaken

-- the reason by the flow's port: a closed one is closed by that packet
module _ (s : Seen) (x y : ℕ) where
  abbrev by_port : Port → Reason
  by_port o =
      cond (same_port o East && not (no_packet s.west)) WestHeld
      (cond (same_port o South && south_taken s x y) SouthTaken LowerEntered)

  shut : (o : Port) → is_open s x o ≡ false → by_port o ≡ closed_by o
  unfolding is_open
  shut East e = rw e
  shut South e = rw (south_taken_lem s x y, e)

  unshut : (o : Port) → is_open s x o ≡ true → by_port o ≡ LowerEntered
  unfolding is_open
  unshut East e = rw e
  unshut South e = rw (south_taken_lem s x y, e)

module _ (p : Plan) (v : View) (f : ℕ) where
  abbrev xs : ℕ
  xs = (flow_at p f).xs

  abbrev ys : ℕ
  ys = (flow_at p f).ys

  -- a flow that enters is ready
  unready : (Ready p v f → ⊥) → enters p v f ≡ false
  unready no' = never (enters p v f) (λ e. no' (entering_ready p v f e))

  -- the reason by each test of rule 3
  pub told_entered : enters p v f ≡ true → reason p v f ≡ Entered
  unfolding reason applies
  told_entered e = rw e

  pub told_nothing : v.waits f ≡ false → reason p v f ≡ NothingWaiting
  unfolding reason applies
  told_nothing none' = rw (unready (λ r. false≢true (sym none' ∙ r.waits)), none')

  pub told_no_token : v.waits f ≡ true → v.token f ≡ false → reason p v f ≡ NoToken
  unfolding reason applies
  told_no_token some' none' = rw (unready (λ r. false≢true (sym none' ∙ r.token)), some', none')

  pub told_closed : v.waits f ≡ true → v.token f ≡ true → is_open (seen_by p v f) xs (port_for p f) ≡ false → reason p v f ≡ closed_by (port_for p f)
  unfolding reason applies
  told_closed some' one' closed =
      rw (unready (λ r. false≢true (sym closed ∙ r.opened)), some', one') (shut (seen_by p v f) xs ys (port_for p f) closed)

  pub told_lower : Ready p v f → enters p v f ≡ false → reason p v f ≡ LowerEntered
  unfolding reason applies
  told_lower r no' = rw (no', r.waits, r.token) (unshut (seen_by p v f) xs ys (port_for p f) r.opened)

-- a reason by its number
abbrev by_number : ℕ → Reason
by_number zero = Entered
by_number (suc zero) = NothingWaiting
by_number (suc (suc zero)) = NoToken
by_number (suc (suc (suc zero))) = WestHeld
by_number (suc (suc (suc (suc zero)))) = SouthTaken
by_number (suc (suc (suc (suc (suc n))))) = LowerEntered

by_number_lem : (r : Reason) → by_number (number_of r) ≡ r
by_number_lem Entered = refl
by_number_lem NothingWaiting = refl
by_number_lem NoToken = refl
by_number_lem WestHeld = refl
by_number_lem SouthTaken = refl
by_number_lem LowerEntered = refl

module _ (p : Plan) (v : View) (f : ℕ) where
  -- no reason with a number below n applies
  abbrev NoneBelow : ℕ → Type 0
  NoneBelow n = (q : Reason) → number_of q < n → applies p v f q ≡ false

  one_more : (r : Reason) → NoneBelow (number_of r) → applies p v f r ≡ false → NoneBelow (suc (number_of r))
  one_more r low e q l =
      elim (dec_lt (number_of q) (number_of r)) [
        | yes below ↦ low q below
        | no above ↦ let same : number_of q ≡ number_of r = omega arith in rw (sym (by_number_lem q) ∙ ap by_number same ∙ by_number_lem r) e
      ]

  -- a port that no packet closes is open
  opened : (o : Port) → same_port o East && not (no_packet (seen_by p v f).west) ≡ false
      → same_port o South && south_taken (seen_by p v f) (xs p v f) (ys p v f) ≡ false → is_open (seen_by p v f) (xs p v f) o ≡ true
  unfolding is_open
  opened East e e' = not-false _ e
  opened South e e' = not-false _ (sym (south_taken_lem (seen_by p v f) (xs p v f) (ys p v f)) ∙ e')

  lower : (g : ℕ) → g < f → (o : Option ℕ) → is_flow g o ≡ true → is_lower f o ≡ true
  lower g l none e = e
  lower g l (some h) e = lt-ltb h f (rw (← (eqb-true h g e)) at l)

  -- where none of the first five applies, a lower-numbered flow of the client enters
  the_rest : f < length p.flows → NoneBelow 5 → applies p v f LowerEntered ≡ true
  unfolding applies
  the_rest in_plan low =
      let waits : v.waits f ≡ true = not-false _ (low NothingWaiting (omega arith)) in
      let token : v.token f ≡ true = not-false _ (low NoToken (omega arith)) in
      let port = opened (port_for p f) (low WestHeld (omega arith)) (low SouthTaken (omega arith)) in
      elim (some_enters p v f in_plan (parts_ready p v f (record { waits = waits; token = token; opened = port }))) [
        | inl now ↦ absurd (false≢true (sym (low Entered (omega arith)) ∙ now))
        | inr (g, l, same, other) ↦ lower g l (entrant p v (xs p v f) (ys p v f)) (sym (enters_at p v (xs p v f) (ys p v f) g same) ∙ other)
      ]

  -- a reason is the first that applies, or the first lies behind it
  either : (r : Reason) {later : Reason} → NoneBelow (number_of r) → (NoneBelow (suc (number_of r)) → IsFirst p v f later)
      → IsFirst p v f (cond (applies p v f r) r later)
  either r low rest =
      elim (test (applies p v f r)) [
        | inl e ↦ rw e (record { applies_itself = e; none_before = low })
        | inr e ↦ rw e (rest (one_more r low e))
      ]

-- every flow of a plan has the first reason that applies
pub every_reason : EveryReason
unfolding reason
every_reason p v f in_plan =
    either p v f Entered (λ q l. absurd (omega arith))
    (λ low1. either p v f NothingWaiting low1
    (λ low2. either p v f NoToken low2
    (λ low3. either p v f WestHeld low3
    (λ low4. either p v f SouthTaken low4 (λ low5. record { applies_itself = the_rest p v f in_plan low5; none_before = low5 })))))

-- the word is 0 exactly where the flow enters
pub entered_word : (p : Plan) (v : View) (f : ℕ) → f < length p.flows → eqb (get_or (reason_words p v) f 0) 0 ≡ enters p v f
unfolding reason_words applies
entered_word p v f l = rw (get_d_tabulate (length p.flows) (λ g. number_of (reason p v g)) f 0 l) (by (reason p v f) (every_reason p v f l))
  where
    by : (r : Reason) → IsFirst p v f r → eqb (number_of r) 0 ≡ enters p v f
    by Entered h = sym h.applies_itself
    by NothingWaiting h = sym (h.none_before Entered (omega arith))
    by NoToken h = sym (h.none_before Entered (omega arith))
    by WestHeld h = sym (h.none_before Entered (omega arith))
    by SouthTaken h = sym (h.none_before Entered (omega arith))
    by LowerEntered h = sym (h.none_before Entered (omega arith))

module _ (p : Plan) (ok : PlanOk p) (v w : View) (agree : Agree p v w) where
  reason_same : (f : ℕ) → f < length p.flows → reason p v f ≡ reason p w f
  unfolding reason applies
  reason_same f l =
      let φ = ok.flow_ok f l in
      rw (enters_same p ok v w agree f, agree.waits_same f l, agree.token_same f l, agree.seen_same _ _ φ.xs_on φ.ys_on)

  pub reasons_same : reason_words p v ≡ reason_words p w
  unfolding reason_words
  reasons_same = tabulate_same (length p.flows) _ _ (λ f l. ap number_of (reason_same f l))
