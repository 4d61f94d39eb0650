-- Who enters (01, One cycle, rule 3): of each client's ready flows the lowest-numbered, and no other. Two views that agree let the same
-- flows enter. Rests on specs/Rule.
use mathlib.Core.Bool.{Bool, true, false, ◌&&◌, false≢true}
use mathlib.Core.Logic.{◌⊎◌, inl, inr}
use mathlib.Core.Option.{Option, none, some}
use mathlib.Core.Path.{◌≡◌, refl, sym, ap, subst, ◌∙◌}
use Prim.Native.Nat.{ℕ, ◌+◌, ◌≤◌, ◌<◌}
use native.Mathlib.Decide.{ℕ_discrete, dec_lt}
use native.Mathlib.Omega.{arith}
use borrow.Author.Tests.{eq-eqb, ne_eqb, eqb-true}
use lib.ListN.{length}
use Rattle.laws.proofs.Cases.{and_true, eqb_both, both_eqb}
use Rattle.laws.proofs.Bounded.{First, nowhere, first_at, finds, first_same}
use Rattle.flow.specs.Offsets.{port_of, same_client}
use Rattle.flow.specs.Plan.{Plan, flow_at}
use Rattle.flow.specs.Ranges.{PlanOk}
use Rattle.router.specs.Rule.{View, is_open, ready, is_client, entrant_below, entrant, is_flow, enters}

module _ (p : Plan) (v : View) where
  -- a waiting packet, a token and an open port
  pub record Ready (f : ℕ) : Type 0 where
    pub waits : v.waits f ≡ true
    pub token : v.token f ≡ true
    pub opened : is_open (v.seen (flow_at p f).xs (flow_at p f).ys) (flow_at p f).xs (port_of p.sx (flow_at p f)) ≡ true

  pub ready_parts : (f : ℕ) → ready p v f ≡ true → Ready f
  unfolding ready
  ready_parts f e =
      let h = and_true _ _ e in
      let k = and_true _ _ h.0 in
      record { waits = k.0; token = k.1; opened = h.1 }

  pub parts_ready : (f : ℕ) → Ready f → ready p v f ≡ true
  unfolding ready
  parts_ready f h = rw (h.waits, h.token, h.opened)

  -- flow f enters at the router in column x and row y
  pub record Entrant (x y f : ℕ) : Type 0 where
    pub below : f < length p.flows
    pub column : x ≡ (flow_at p f).xs
    pub row : y ≡ (flow_at p f).ys
    pub is_ready : ready p v f ≡ true
    pub lowest : (g : ℕ) → g < f → is_client p x y g && ready p v g ≡ false

  -- who enters there: nobody, as no flow of the client is ready, or the first that is
  pub data Found (x y : ℕ) : Option ℕ → Type 0 where
    no_entrant : ((g : ℕ) → g < length p.flows → is_client p x y g && ready p v g ≡ false) → Found x y none
    has_entrant : (f : ℕ) → Entrant x y f → Found x y (some f)

  pub found : (x y : ℕ) → Found x y (entrant p v x y)
  found x y = tell (finds (λ f. is_client p x y f && ready p v f) (length p.flows))
    where
      tell : {o : Option ℕ} → First (λ f. is_client p x y f && ready p v f) (length p.flows) o → Found x y o
      tell (nowhere low) = no_entrant low
      tell (first_at f l t low) =
          let h = and_true (is_client p x y f) (ready p v f) t in
          let e = eqb_both x (flow_at p f).xs y (flow_at p f).ys h.0 in
          has_entrant f (record { below = l; column = e.0; row = e.1; is_ready = h.1; lowest = low })

  -- whether a flow of that client enters
  pub enters_at : (x y f : ℕ) → is_client p x y f ≡ true → enters p v f ≡ is_flow f (entrant p v x y)
  unfolding enters
  enters_at x y f c = let e = eqb_both x (flow_at p f).xs y (flow_at p f).ys c in rw (e.0, e.1)

  pub entering : (f : ℕ) → enters p v f ≡ true → Entrant (flow_at p f).xs (flow_at p f).ys f
  unfolding enters
  entering f t = own (found (flow_at p f).xs (flow_at p f).ys) t
    where
      own : {o : Option ℕ} → Found (flow_at p f).xs (flow_at p f).ys o → is_flow f o ≡ true → Entrant (flow_at p f).xs (flow_at p f).ys f
      own (no_entrant low) e = absurd (false≢true e)
      own (has_entrant g h) e = subst (Entrant (flow_at p f).xs (flow_at p f).ys) (eqb-true g f e) h

  pub entering_ready : (f : ℕ) → enters p v f ≡ true → Ready f
  entering_ready f e = ready_parts f (entering f e).is_ready

  -- no lower-numbered flow of the client is ready
  pub lowest_enters : (f g : ℕ) → enters p v f ≡ true → ready p v g ≡ true → same_client (flow_at p f) (flow_at p g) ≡ true → f ≤ g
  lowest_enters f g e r same =
      elim (dec_lt g f) [ no l ↦ omega arith | yes l ↦ absurd (false≢true (sym ((entering f e).lowest g l) ∙ rw (same, r))) ]

  -- of a client with a ready flow one enters, that flow or a lower-numbered one
  pub some_enters : (f : ℕ) → f < length p.flows → ready p v f ≡ true
      → (enters p v f ≡ true) ⊎ ((g : ℕ) × (g < f) × (same_client (flow_at p f) (flow_at p g) ≡ true) × (enters p v g ≡ true))
  some_enters f in_plan r = pick refl (found xs ys)
    where
      xs : ℕ
      xs = (flow_at p f).xs

      ys : ℕ
      ys = (flow_at p f).ys

      own : is_client p xs ys f ≡ true
      own = both_eqb xs xs ys ys refl refl

      pick : {o : Option ℕ} → entrant p v xs ys ≡ o → Found xs ys o
          → (enters p v f ≡ true) ⊎ ((g : ℕ) × (g < f) × (same_client (flow_at p f) (flow_at p g) ≡ true) × (enters p v g ≡ true))
      pick e (no_entrant low) = absurd (false≢true (sym (low f in_plan) ∙ rw (own, r)))
      pick e (has_entrant g h) =
          let same : is_client p xs ys g ≡ true = both_eqb xs (flow_at p g).xs ys (flow_at p g).ys h.column h.row in
          elim (dec_lt g f) [
            | yes l ↦ inr (g, l, same, enters_at xs ys g same ∙ rw (e, eq-eqb g g refl))
            | no l ↦ elim (ℕ_discrete g f) [
              | yes is ↦ inl (enters_at xs ys f own ∙ rw (e, eq-eqb g f is))
              | no other ↦ absurd (false≢true (sym (h.lowest f (omega arith)) ∙ rw (own, r)))
            ]
          ]

  -- whether a flow enters is known at its turn in the order of the flows
  pub enters_turn : (f : ℕ) → f < length p.flows → is_flow f (entrant_below p v (flow_at p f).xs (flow_at p f).ys (f + 1)) ≡ enters p v f
  unfolding enters
  enters_turn f in_plan = alike (finds ready_there (f + 1)) (finds ready_there (length p.flows))
    where
      ready_there : ℕ → Bool
      ready_there g = is_client p (flow_at p f).xs (flow_at p f).ys g && ready p v g

      alike : {early late : Option ℕ} → First ready_there (f + 1) early → First ready_there (length p.flows) late → is_flow f early ≡ is_flow f late
      alike (nowhere low) (nowhere none') = refl
      alike (nowhere low) (first_at h l t none') =
          sym (ne_eqb h f (λ e. false≢true (sym (low f (omega arith)) ∙ subst (λ g. ready_there g ≡ true) e t)))
      alike (first_at g l t low) (nowhere none') = absurd (false≢true (sym (none' g (omega arith)) ∙ t))
      alike (first_at g l t low) (first_at h m u none') =
          elim (dec_lt g h) [
            | yes below ↦ absurd (false≢true (sym (none' g below) ∙ t))
            | no above ↦ elim (dec_lt h g) [
              | yes under ↦ absurd (false≢true (sym (low h under) ∙ u))
              | no same ↦ let e : g ≡ h = omega arith in rw e
            ]
          ]

-- two views that say the same of the plan's flows and of the torus's routers
pub record Agree (p : Plan) (v w : View) : Type 0 where
  pub waits_same : (f : ℕ) → f < length p.flows → v.waits f ≡ w.waits f
  pub token_same : (f : ℕ) → f < length p.flows → v.token f ≡ w.token f
  pub seen_same : (x y : ℕ) → x < p.sx → y < p.sy → v.seen x y ≡ w.seen x y

module _ (p : Plan) (ok : PlanOk p) (v w : View) (agree : Agree p v w) where
  pub ready_same : (f : ℕ) → f < length p.flows → ready p v f ≡ ready p w f
  unfolding ready
  ready_same f l =
      let φ = ok.flow_ok f l in
      rw (agree.waits_same f l, agree.token_same f l, agree.seen_same (flow_at p f).xs (flow_at p f).ys φ.xs_on φ.ys_on)

  pub entrant_same : (x y : ℕ) → entrant p v x y ≡ entrant p w x y
  entrant_same x y =
      first_same (λ f. is_client p x y f && ready p v f) (λ f. is_client p x y f && ready p w f) (length p.flows)
      (λ f l. ap (λ (t : Bool). is_client p x y f && t) (ready_same f l))

  pub enters_same : (f : ℕ) → enters p v f ≡ enters p w f
  unfolding enters
  enters_same f = ap (is_flow f) (entrant_same (flow_at p f).xs (flow_at p f).ys)
