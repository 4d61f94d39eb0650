-- Laws of groups: what a delivery has that isn't strange to the plan, and the groups of deliveries' words. Rests on specs/Groups and the
-- laws of flights.
use mathlib.Core.Bool.{Bool, true, false, not}
use mathlib.Core.List.{List, [], ◌∷◌, map}
use mathlib.Core.Path.{◌≡◌, refl, sym, ◌∙◌}
use Prim.Native.Nat.{ℕ, zero, suc, ◌+◌, ◌-◌, ◌*◌, ◌/◌, ◌≤◌, ◌<◌}
use native.Mathlib.Decide.{ℕ_discrete}
use native.Mathlib.Omega.{arith}
use borrow.Author.Tests.{le-ltb, lt-leb, le-leb, eq-eqb, ne_eqb, ltb-false, leb-false, leb-true, eqb-true, not-false}
use lib.Dec.{eqb}
use lib.ListN.{length, get_or, take, drop}
use lib.Seq.{get_or-append-add, get_or-take, get_or-drop}
use Rattle.std.specs.Prelude.{Option, Some, None}
use Rattle.std.specs.Option.{SomeIff, option_eq}
use Rattle.std.specs.List.{list_any}
use Rattle.std.specs.Simd.{first_chunks}
use Rattle.laws.specs.Count.{any}
use Rattle.laws.proofs.Bounded.{is_tabulate}
use Rattle.laws.proofs.Cases.{and_true, or_false}
use Rattle.flow.specs.declared.Flow.{Flow}
use Rattle.flow.specs.Offsets.{ΔY}
use Rattle.flow.specs.Plan.{Plan, flow_at}
use Rattle.flow.specs.Limits.{exit_size}
use Rattle.flight.specs.Flight.{travel, flight, flight_of}
use Rattle.router.specs.Delivery.{Delivery, delivery_with, words_of}
use Rattle.router.proofs.Delivery.{words_length}
use Rattle.state.specs.Read.{sx_in, sy_in, count_in, plan_in, state_of}
use Rattle.state.proofs.View.{view_count}
use Rattle.delivery.specs.Groups.{group_at, groups_of, impossible, strange}
use Rattle.delivery.specs.Inner.{group_in}

-- two more on both sides
eqb_two : (m n : ℕ) → eqb (m + 2) (n + 2) ≡ eqb m n
eqb_two m n =
    elim (ℕ_discrete m n) [
      | yes e ↦ rw (eq-eqb m n e, eq-eqb (m + 2) (n + 2) (omega arith))
      | no e ↦ rw (ne_eqb m n e, ne_eqb (m + 2) (n + 2) (λ h. e (omega arith)))
    ]

-- with few deflections and an exit after the entry, what is left is the time from entry to exit
pub by_travel : (sx sy : ℕ) (f : Flow) (entry exit D : ℕ) → D ≤ ΔY sy f → entry ≤ exit
    → not (eqb (exit - entry) (travel sx sy f D)) ≡ impossible sx sy f entry exit D
unfolding impossible
by_travel sx sy f entry exit D few ordered =
    rw (le-ltb (ΔY sy f) D few, le-leb entry exit ordered, eqb_two (exit - entry) (travel sx sy f D))

-- likewise by the time, which there is where the exit isn't before the entry
pub by_time : (sx sy : ℕ) (f : Flow) (entry exit D : ℕ) (time : Option ℕ) → D ≤ ΔY sy f → SomeIff time (entry ≤ exit) (exit - entry)
    → not (option_eq eqb time (Some (travel sx sy f D))) ≡ impossible sx sy f entry exit D
unfolding impossible
by_time sx sy f entry exit D None few h = rw (le-ltb (ΔY sy f) D few, lt-leb entry exit (omega (arith, h)))
by_time sx sy f entry exit D (Some t) few h = rw h.1 (by_travel sx sy f entry exit D few h.0)

-- a delivery that the plan can have: a flow of the plan, D at most ΔY, and exit after entry by ΔX + ΔY + D×Sx
pub record Genuine (p : Plan) (d : Delivery) : Type 0 where
  pub flow_below : d.flow < length p.flows
  pub few : d.D ≤ ΔY p.sy (flow_at p d.flow)
  pub time : d.exit ≡ d.entry + travel p.sx p.sy (flow_at p d.flow) d.D

module _ (p : Plan) (d : Delivery) where
  abbrev f : Flow
  f = flow_at p d.flow

  pub genuine_known : Genuine p d → strange p d ≡ false
  unfolding strange
  genuine_known g =
      rw (
        lt-leb (length p.flows) d.flow g.flow_below,
        ← (by_travel p.sx p.sy f d.entry d.exit d.D g.few (omega (arith, g.time))),
        eq-eqb (d.exit - d.entry) (travel p.sx p.sy f d.D) (omega (arith, g.time)),
      )

  pub known_genuine : strange p d ≡ false → Genuine p d
  unfolding strange impossible
  known_genuine e =
      let parts = or_false _ _ e in
      let flown = or_false _ _ parts.1 in
      let right = and_true _ _ (not-false _ flown.1) in
      let ordered = leb-true d.entry d.exit right.0 in
      let long = eqb-true (flight d.entry d.exit) (flight_of p.sx p.sy f d.D) right.1 in
      record {
        flow_below = leb-false _ _ parts.0;
        few = ltb-false _ _ flown.0;
        time = omega (arith, ordered, long);
      }

-- the same of the plan that words have
module _ (w : List ℕ) (d : Delivery) where
  pub no_flow : count_in w ≤ d.flow → true ≡ strange (plan_in w) d
  unfolding strange
  no_flow h = rw (view_count w, le-leb (count_in w) d.flow h)

  pub of_flow_lem : d.flow < count_in w
      → impossible (sx_in w) (sy_in w) (flow_at (state_of w).plan d.flow) d.entry d.exit d.D ≡ strange (plan_in w) d
  unfolding strange plan_in state_of
  of_flow_lem h = rw (view_count w, lt-leb (count_in w) d.flow h)

-- the words behind a first delivery's
next_group : (d : Delivery) (ds : List Delivery) (i : ℕ) → group_at (words_of (d ∷ ds)) (suc i) ≡ group_at (words_of ds) i
next_group d ds i =
    rw (behind (exit_size * suc i) (exit_size * i) (omega arith), word 1, word 2, word 3, word 4)
  where
    behind : (j k : ℕ) → j ≡ exit_size + k → get_or (words_of (d ∷ ds)) j 0 ≡ get_or (words_of ds) k 0
    behind j k e = rw e (get_or-append-add (words_of (d ∷ [])) (words_of ds) k 0)

    word : (k : ℕ) → get_or (words_of (d ∷ ds)) (exit_size * suc i + k) 0 ≡ get_or (words_of ds) (exit_size * i + k) 0
    word k = behind (exit_size * suc i + k) (exit_size * i + k) (omega arith)

-- the groups of deliveries' words are these deliveries
pub groups_words : (ds : List Delivery) → groups_of (words_of ds) ≡ ds
unfolding groups_of
groups_words ds =
    sym (is_tabulate ds (length (words_of ds) / exit_size) (group_at (words_of ds)) none (omega (arith, words_length ds))
    (λ i h. group ds i (omega (arith, words_length ds))))
  where
    none : Delivery
    none = delivery_with 0 0 0 0 0

    group : (ds : List Delivery) (i : ℕ) → i < length ds → get_or ds i none ≡ group_at (words_of ds) i
    group [] i h = absurd (omega arith)
    group (d ∷ ds) zero h = refl
    group (d ∷ ds) (suc i) h = group ds i (omega arith) ∙ sym (next_group d ds i)

-- and words cut into fives are their groups
pub groups_chunks : (w : List ℕ) → map group_in (first_chunks exit_size (length w / exit_size) w) ≡ groups_of w
unfolding groups_of
groups_chunks w =
    let n = length w / exit_size in
    is_tabulate (cut n w) n (group_at w) none (cut_length n w) (cut_at n w)
  where
    none : Delivery
    none = delivery_with 0 0 0 0 0

    cut : ℕ → List ℕ → List Delivery
    cut n w = map group_in (first_chunks exit_size n w)

    cut_length : (n : ℕ) (w : List ℕ) → length (cut n w) ≡ n
    cut_length zero w = refl
    cut_length (suc n) w = omega (arith, cut_length n (drop exit_size w))

    inside : (w : List ℕ) (k : ℕ) → k < exit_size → get_or (take exit_size w) k 0 ≡ get_or w k 0
    inside w k h = get_or-take exit_size w k 0 h

    behind : (w : List ℕ) (j k : ℕ) → j ≡ exit_size + k → get_or (drop exit_size w) k 0 ≡ get_or w j 0
    behind w j k e = rw e (get_or-drop exit_size w k 0)

    cut_at : (n : ℕ) (w : List ℕ) (i : ℕ) → i < n → get_or (cut n w) i none ≡ group_at w i
    cut_at zero w i h = absurd (omega arith)
    cut_at (suc n) w zero h =
        let at : (k : ℕ) → k < exit_size → get_or (take exit_size w) k 0 ≡ get_or w k 0 = inside w in
        rw (at 0 (omega arith), at 1 (omega arith), at 2 (omega arith), at 3 (omega arith), at 4 (omega arith))
    cut_at (suc n) w (suc i) h =
        let at : (k : ℕ) → get_or (drop exit_size w) (exit_size * i + k) 0 ≡ get_or w (exit_size * suc i + k) 0 =
        λ k. behind w (exit_size * suc i + k) (exit_size * i + k) (omega arith) in
        cut_at n (drop exit_size w) i (omega arith) ∙ rw (behind w (exit_size * suc i) (exit_size * i) (omega arith), at 1, at 2, at 3, at 4)

-- a test of the groups is one of the words
pub any_groups : (t : Delivery → Bool) (cuts : List (List ℕ)) → list_any (λ g. t (group_in g)) cuts ≡ any t (map group_in cuts)
any_groups t [] = refl
any_groups t (g ∷ cuts) = rw (any_groups t cuts)
