-- Who leaves a router by each way out: the line in W, the line in N or the client's, and of these one at most. Rests on Held, Queue and
-- the laws of the routing rule.
use mathlib.Core.Bool.{Bool, true, false, cond, ◌&&◌, and-true as and_so, false≢true}
use mathlib.Core.List.{List, [], Memᴰ as Mem}
use mathlib.Core.Logic.{inl, inr}
use mathlib.Core.Option.{Option, none, some}
use mathlib.Core.Path.{◌≡◌, refl, sym, ap, ◌∙◌}
use Prim.Native.Nat.{ℕ, ◌≤◌}
use native.Mathlib.Decide.{ℕ_discrete}
use native.Mathlib.Omega.{arith}
use borrow.Author.Tests.{eq-eqb, ne_eqb, eqb-true}
use lib.Dec.{eqb}
use lib.ListN.{length}
use Rattle.laws.specs.Count.{keep}
use Rattle.laws.proofs.Cases.{test, never, and_true, eqb_both, both_eqb}
use Rattle.laws.proofs.Count.{one_most}
use Rattle.laws.proofs.Keep.{keep_same, keep_none, length_keep}
use Rattle.flow.specs.declared.Flow.{Flow}
use Rattle.flow.specs.Offsets.{port_of}
use Rattle.flow.specs.Plan.{Plan, flow_at}
use Rattle.place.specs.Place.{Place, W, N, column_of, row_of}
use Rattle.router.specs.Rule.{Seen, Way, same_way, takes, is_client, is_flow, entrant, way_in}
use Rattle.router.proofs.Rule.{way_refl, way_same, takes_own, north_yields, open_west, open_north}
use Rattle.router.proofs.Entrant.{Found, no_entrant, has_entrant, found, entering_ready, enters_at}
use Rattle.book.specs.Line.{Stage, waiting, placed, left, Line, is_waiting, stands_in}
use Rattle.book.specs.Book.{Book, of_flow}
use Rattle.book.specs.Cycle.{lines_in, holds, seen, view, output, enters, lowest}
use Rattle.book.proofs.Moves.{goes, goes_enters}
use Rattle.book.proofs.Queue.{Queued, goes_count}
use Rattle.book.proofs.Held.{Apart, holds_own}

-- the line's packet takes this way out of the router in column x and row y in the step
abbrev pub leaves : Plan → Book → Line → (x y : ℕ) → Way → Stage → Bool
leaves p b l x y o waiting = enters p b l.flow && lowest b l && (is_client p x y l.flow && same_way (way_in p l.flow) o)
leaves p b l x y o (placed e at) = eqb x (column_of at) && eqb y (row_of at) && same_way (output p b (flow_at p l.flow) at) o
leaves p b l x y o (left e t x' y') = false

abbrev pub leaves_by : Plan → Book → (x y : ℕ) → Way → Line → Bool
leaves_by p b x y o l = leaves p b l x y o l.stage

abbrev pub outgoing : Plan → Book → (x y : ℕ) → Way → List Line
outgoing p b x y o = keep (leaves_by p b x y o) b.lines

-- the line of a client's flow that enters, where it takes this way out
abbrev pub entrants_of : Plan → Book → Way → Option ℕ → List Line
entrants_of p b o none = []
entrants_of p b o (some f) = cond (same_way (way_in p f) o) (keep (λ l. of_flow f l && goes p b l) b.lines) []

module _ (p : Plan) (b : Book) (x y : ℕ) where
  abbrev s : Seen
  s = seen p b x y

  -- a client's line that enters and takes this way out
  abbrev comes_at : Way → Line → Stage → Bool
  comes_at o l st = is_waiting st && (enters p b l.flow && lowest b l) && (is_client p x y l.flow && same_way (way_in p l.flow) o)

  abbrev comes : Way → Line → Bool
  comes o l = comes_at o l l.stage

  -- a line is in W, in N or in neither: it leaves where that register's packet does, or as its client's
  data Source (o : Way) (l : Line) (st : Stage) : Type 0 where
    in_west : stands_in (W x y) st ≡ true → stands_in (N x y) st ≡ false → comes_at o l st ≡ false → leaves p b l x y o st ≡ takes s (W x y) o → Source o l st
    in_north_lem : stands_in (W x y) st ≡ false → stands_in (N x y) st ≡ true → comes_at o l st ≡ false → leaves p b l x y o st ≡ takes s (N x y) o → Source o l st
    in_neither : stands_in (W x y) st ≡ false → stands_in (N x y) st ≡ false → leaves p b l x y o st ≡ comes_at o l st → Source o l st

  source : (o : Way) (l : Line) (st : Stage) → ((at : Place) → stands_in at st ≡ true → holds p b at ≡ some (flow_at p l.flow)) → Source o l st
  source o l waiting own = in_neither refl refl refl
  source o l (placed e (W x' y')) own =
      elim (test (eqb x x' && eqb y y')) [
        | inr other ↦ in_neither other refl (rw other)
        | inl here ↦
            let k = eqb_both x x' y y' here in
            in_west here refl refl (rw (here, ← k.0, ← k.1) (sym (takes_own s (W x y) (flow_at p l.flow) o (own (W x y) here))))
      ]
  source o l (placed e (N x' y')) own =
      elim (test (eqb x x' && eqb y y')) [
        | inr other ↦ in_neither refl other (rw other)
        | inl here ↦
            let k = eqb_both x x' y y' here in
            in_north_lem refl here refl (rw (here, ← k.0, ← k.1) (sym (takes_own s (N x y) (flow_at p l.flow) o (own (N x y) here))))
      ]
  source o l (left e t x' y') own = in_neither refl refl refl

  -- what such a line is
  record Comer (o : Way) (l : Line) : Type 0 where
    enters_now : enters p b l.flow ≡ true
    client : is_client p x y l.flow ≡ true
    way : way_in p l.flow ≡ o

  comer : (o : Way) (l : Line) → comes o l ≡ true → Comer o l
  comer o l t =
      let a = and_true (goes p b l) (is_client p x y l.flow && same_way (way_in p l.flow) o) t in
      let c = and_true (is_client p x y l.flow) (same_way (way_in p l.flow) o) a.1 in
      record { enters_now = goes_enters p b l a.0; client = c.0; way = way_same (way_in p l.flow) o c.1 }

  -- its way is by an open port, so no packet of the router takes it
  client_clear : (o : Way) (l : Line) → Comer o l → (takes s (W x y) o ≡ false) × (takes s (N x y) o ≡ false)
  client_clear o l h =
      let φ : Flow = flow_at p l.flow in
      let at = eqb_both x φ.xs y φ.ys h.client in
      let opened = (entering_ready p (view p b) l.flow h.enters_now).opened in
      rw (at.0, at.1, ← h.way) (
        open_west (seen p b φ.xs φ.ys) φ.xs φ.ys (port_of p.sx φ) φ opened,
        open_north (seen p b φ.xs φ.ys) φ.xs φ.ys (port_of p.sx φ) φ opened,
      )

  -- the client's lines by this way out are those of the flow that enters there
  entrants : (o : Way) → keep (comes o) b.lines ≡ entrants_of p b o (entrant p (view p b) x y)
  entrants o = by_entrant refl (found p (view p b) x y)
    where
      -- a line that comes is of that flow
      is_flow_lem : (l : Line) → Comer o l → is_flow l.flow (entrant p (view p b) x y) ≡ true
      is_flow_lem l h = sym (enters_at p (view p b) x y l.flow h.client) ∙ h.enters_now

      by_entrant : {e : Option ℕ} → entrant p (view p b) x y ≡ e → Found p (view p b) x y e → keep (comes o) b.lines ≡ entrants_of p b o e
      by_entrant e (no_entrant low) =
          keep_none (comes o) b.lines (λ l m. never (comes o l) (λ t. false≢true (sym (ap (is_flow l.flow) e) ∙ is_flow_lem l (comer o l t))))
      by_entrant e (has_entrant f h) =
          elim (test (same_way (way_in p f) o)) [
            | inl way ↦ rw way (keep_same (comes o) (λ l. of_flow f l && goes p b l) b.lines (λ l m. same way l))
            | inr way ↦ rw way (keep_none (comes o) b.lines (λ l m. never (comes o l) (λ t. other way l (comer o l t))))
          ]
        where
          own : (l : Line) → Comer o l → f ≡ l.flow
          own l t = eqb-true f l.flow (sym (ap (is_flow l.flow) e) ∙ is_flow_lem l t)

          other : same_way (way_in p f) o ≡ false → (l : Line) → Comer o l → ⊥
          other way l t = false≢true (sym way ∙ ap (λ (u : Way). same_way u o) (ap (way_in p) (own l t) ∙ t.way) ∙ way_refl o)

          same : same_way (way_in p f) o ≡ true → (l : Line) → comes o l ≡ of_flow f l && goes p b l
          same way l =
              elim (ℕ_discrete l.flow f) [
                | yes is ↦
                    let at : is_client p x y f ≡ true = both_eqb x (flow_at p f).xs y (flow_at p f).ys h.column h.row in
                    let so : is_client p x y l.flow && same_way (way_in p l.flow) o ≡ true
                    = ap (λ (g : ℕ). is_client p x y g && same_way (way_in p g) o) is ∙ rw (at, way) in
                    ap (λ (t : Bool). goes p b l && t) so ∙ rw (eq-eqb l.flow f is) (and_so (goes p b l))
                | no other ↦ rw (ne_eqb l.flow f other) (never (comes o l) (λ t. other (sym (own l (comer o l t)))))
              ]

  module _ (apart : Apart b) where
    from : (o : Way) (l : Line) → Mem l b.lines → Source o l l.stage
    from o l m = source o l l.stage (λ at h. holds_own p b at apart l m h)

    pub outgoing_is : (o : Way) → outgoing p b x y o
        ≡ cond (takes s (W x y) o) (lines_in b (W x y)) (cond (takes s (N x y) o) (lines_in b (N x y)) (entrants_of p b o (entrant p (view p b) x y)))
    outgoing_is o =
        elim (test (takes s (W x y) o)) [
          | inl w ↦ rw w (keep_same _ _ b.lines (λ l m. west w l (from o l m)))
          | inr w ↦ elim (test (takes s (N x y) o)) [
            | inl n ↦ rw (w, n) (keep_same _ _ b.lines (λ l m. north w n l (from o l m)))
            | inr n ↦ rw (w, n) (keep_same _ _ b.lines (λ l m. neither w n l (from o l m)) ∙ entrants o)
          ]
        ]
      where
        west : takes s (W x y) o ≡ true → (l : Line) → Source o l l.stage → leaves_by p b x y o l ≡ stands_in (W x y) l.stage
        west w l (in_west h k c e) = e ∙ w ∙ sym h
        west w l (in_north_lem h k c e) = e ∙ north_yields s x y o w ∙ sym h
        west w l (in_neither h k e) = e ∙ never (comes o l) (λ t. false≢true (sym (client_clear o l (comer o l t)).0 ∙ w)) ∙ sym h

        north : takes s (W x y) o ≡ false → takes s (N x y) o ≡ true → (l : Line) → Source o l l.stage → leaves_by p b x y o l ≡ stands_in (N x y) l.stage
        north w n l (in_west h k c e) = e ∙ w ∙ sym k
        north w n l (in_north_lem h k c e) = e ∙ n ∙ sym k
        north w n l (in_neither h k e) = e ∙ never (comes o l) (λ t. false≢true (sym (client_clear o l (comer o l t)).1 ∙ n)) ∙ sym k

        neither : takes s (W x y) o ≡ false → takes s (N x y) o ≡ false → (l : Line) → Source o l l.stage → leaves_by p b x y o l ≡ comes o l
        neither w n l (in_west h k c e) = e ∙ w ∙ sym c
        neither w n l (in_north_lem h k c e) = e ∙ n ∙ sym c
        neither w n l (in_neither h k e) = e

    -- one way out carries one packet
    pub one_output : Queued b → (o : Way) → length (outgoing p b x y o) ≤ 1
    one_output q o =
        rw (outgoing_is o)
        (elim (test (takes s (W x y) o)) [
          | inl w ↦ rw (w, length_keep (λ l. stands_in (W x y) l.stage) b.lines) (apart (W x y))
          | inr w ↦ elim (test (takes s (N x y) o)) [
            | inl n ↦ rw (w, n, length_keep (λ l. stands_in (N x y) l.stage) b.lines) (apart (N x y))
            | inr n ↦ rw (w, n) (few (entrant p (view p b) x y))
          ]
        ])
      where
        few : (e : Option ℕ) → length (entrants_of p b o e) ≤ 1
        few none = omega arith
        few (some f) =
            elim (test (same_way (way_in p f) o)) [
              | inl t ↦ rw (t, length_keep (λ l. of_flow f l && goes p b l) b.lines, goes_count b q p f) (one_most (enters p b f))
              | inr t ↦ rw t (omega arith)
            ]
