-- The path of a packet: 01's in-place conditions, told without differences, and its progress. One step by rules 1 and 2 keeps the
-- conditions and raises the progress, whatever the router sees. Rests on specs/Rule and the laws of offsets.
use mathlib.Core.Bool.{true, cond, false≢true}
use mathlib.Core.Logic.{◌⊎◌, inl, inr}
use mathlib.Core.Path.{◌≡◌, refl, ap, ◌∙◌}
use Prim.Native.Nat.{ℕ, suc, ◌+◌, ◌-◌, ◌*◌, ◌≤◌, ◌<◌}
use native.Mathlib.Nat.{add-zero, mul-le-mul_right}
use native.Mathlib.Decide.{ℕ_discrete, dec_lt}
use native.Mathlib.Omega.{arith}
use borrow.Author.Tests.{lt-ltb, le-ltb, eq-eqb, ne_eqb}
use lib.Dec.{eqb}
use Rattle.laws.specs.Count.{one}
use Rattle.laws.proofs.Cases.{test}
use Rattle.torus.specs.Axis.{offset, next, lap}
use Rattle.torus.proofs.Axis.{offset_below, offset_same, offset_zero, offset_on, offset_short, next_below, lap_first, lap_next, lap_whole, lap_most}
use Rattle.flow.specs.declared.Flow.{Flow}
use Rattle.flow.specs.declared.Port.TheVariants.{East, South}
use Rattle.flow.specs.Offsets.{ΔX, ΔY, port_of}
use Rattle.flow.specs.Plan.{Plan}
use Rattle.flow.specs.Ranges.{FlowOk}
use Rattle.place.specs.Place.{Place, W, N, column_of, row_of}
use Rattle.place.specs.InPlace.{rows_done}
use Rattle.router.specs.Links.{reach}
use Rattle.router.specs.Rule.{Seen, turns_south, deflects, Way, via, leave, way_by, way_from}
use Rattle.router.proofs.Limit.{Rising, Bends, every_row}

module _ (p : Plan) (f : Flow) where
  abbrev sx : ℕ
  sx = p.sx

  abbrev dx : ℕ
  dx = ΔX p.sx f

  abbrev dy : ℕ
  dy = ΔY p.sy f

  -- rows done, columns done in the source's row, and columns done of a round in a later row
  abbrev r : ℕ → ℕ
  r y = rows_done p.sy f y

  abbrev j : ℕ → ℕ
  j x = offset p.sx f.xs x

  abbrev k : ℕ → ℕ
  k x = lap p.sx f.xd x

  -- how far a packet has come in its row
  abbrev pub along : (x y : ℕ) → ℕ
  along x y = cond (eqb (r y) 0) (j x) (k x)

  -- how far a packet in a register has come: rows, then columns
  abbrev pub progress : Place → ℕ
  progress (N x y) = r y * suc sx
  progress (W x y) = r y * suc sx + along x y

  -- above all once it has left
  abbrev pub whole : ℕ
  whole = suc dy * suc sx

  -- and how far
  abbrev pub progress_by : (x y : ℕ) → Way → ℕ
  progress_by x y (via o) = progress (reach p x y o)
  progress_by x y leave = whole

  pub along_first : (x y : ℕ) → r y ≡ 0 → along x y ≡ j x
  along_first x y e = rw (eq-eqb (r y) 0 e)

  pub along_later : (x y : ℕ) → 1 ≤ r y → along x y ≡ k x
  along_later x y l = rw (ne_eqb (r y) 0 (omega arith))

  -- with at most limit r deflections where it goes S in row r
  module _ (limit : ℕ → ℕ) where
    -- in N at clock c, with entry e and D deflections
    pub record InNorth (c D e x y : ℕ) : Type 0 where
      pub column : x ≡ f.xd
      pub row : y < p.sy
      pub least : 1 ≤ r y
      pub most : r y ≤ dy
      pub few : D ≤ limit (r y - 1)
      pub time : c ≡ e + (dx + r y + D * sx)

    -- in W of the source's row
    pub record InFirst (c D e x y : ℕ) : Type 0 where
      pub column : x < sx
      pub row : y ≡ f.ys
      pub least : 1 ≤ j x
      pub most : j x ≤ dx
      pub none : D ≡ 0
      pub time : c ≡ e + j x

    -- in W of a later row
    pub record InLater (c D e x y : ℕ) : Type 0 where
      pub column : x < sx
      pub row : y < p.sy
      pub least : 1 ≤ r y
      pub most : r y ≤ dy
      pub some : 1 ≤ D
      pub few : D ≤ limit (r y)
      pub turning : Bends limit (r y)
      pub time : c + sx ≡ e + (dx + r y + D * sx + k x)

    -- at its exit in cycle c
    pub record AtExit (c D e x y : ℕ) : Type 0 where
      pub column : x ≡ f.xd
      pub row : y ≡ f.yd
      pub few : D ≤ limit dy
      pub time : c ≡ e + (dx + dy + D * sx)

    -- a packet of flow f with entry e and D deflections is in a register where it can be at clock c
    abbrev pub OnPath : (c D e : ℕ) → Place → Type 0
    OnPath c D e (N x y) = InNorth c D e x y
    OnPath c D e (W x y) = InFirst c D e x y ⊎ InLater c D e x y

    -- where a way out of the router in column x and row y leads in cycle c
    abbrev pub Arrives : (c D e x y : ℕ) → Way → Type 0
    Arrives c D e x y (via o) = OnPath (c + 1) D e (reach p x y o)
    Arrives c D e x y leave = AtExit c D e x y

    -- it leads on, to a progress of more than n
    pub record Leads (c D e x y n : ℕ) (o : Way) : Type 0 where
      pub sound : Arrives c D e x y o
      pub rises : n < progress_by x y o

    -- a packet that the router deflects may be
    abbrev pub MayBend : Seen → Place → Type 0
    MayBend s at = deflects s at ≡ true → Bends limit (r (row_of at))

    -- a packet goes S at the router in column x and row y, in cycle c
    pub record GoesSouth (c D e x y : ℕ) : Type 0 where
      pub column : x ≡ f.xd
      pub row : y < p.sy
      pub most : r y ≤ dy
      pub few : D ≤ limit (r y)
      pub time : c ≡ e + (dx + r y + D * sx)

    leads_more : {c D e x y n m : ℕ} {o : Way} → m ≤ n → Leads c D e x y n o → Leads c (D + 0) e x y m o
    leads_more l h = rw add-zero (record { sound = h.sound; rises = omega (arith, h.rises) })

    module _ (ok : FlowOk p.sx p.sy f) where
      dx_below : dx < sx
      dx_below = offset_below sx f.xs f.xd ok.xs_on ok.xd_on

      first_row : r f.ys ≡ 0
      first_row = offset_same p.sy f.ys ok.ys_on

      along_most : (x y : ℕ) → x < sx → along x y ≤ sx
      along_most x y l =
          elim (ℕ_discrete (r y) 0) [
            | yes e ↦ rw (eq-eqb (r y) 0 e) (omega (arith, offset_below sx f.xs x ok.xs_on l))
            | no e ↦ rw (ne_eqb (r y) 0 e) (lap_most sx f.xd x ok.xd_on l)
          ]

      -- a placed packet isn't past its row
      pub progress_row : (c D e : ℕ) (at : Place) → OnPath c D e at → progress at ≤ r (row_of at) * suc sx + sx
      progress_row c D e (N x y) h = omega arith
      progress_row c D e (W x y) (inl h) = omega (arith, along_most x y h.column)
      progress_row c D e (W x y) (inr h) = omega (arith, along_most x y h.column)

      -- S leads to the exit, or one row on
      pub south : (c D e x y : ℕ) → GoesSouth c D e x y → Leads c D e x y (r y * suc sx + sx) (way_by x y f South)
      unfolding reach
      south c D e x y g =
          elim (ℕ_discrete y f.yd) [
            | yes at ↦
                let last : r y ≡ dy = ap r at in
                rw (eq-eqb x f.xd g.column, eq-eqb y f.yd at)
                (record {
                  sound = record { column = g.column; row = at; few = omega (arith, g.few, ap limit last); time = omega (arith, g.time) };
                  rises = rw last (omega arith);
                })
            | no other ↦
                let short : r y < dy = offset_short p.sy f.ys y f.yd ok.ys_on g.row ok.yd_on g.most other in
                let on : r (next p.sy y) ≡ r y + 1 = offset_on p.sy f.ys y f.yd ok.ys_on g.row ok.yd_on short in
                let back : limit (r (next p.sy y) - 1) ≡ limit (r y) = ap limit (omega arith) in
                rw (eq-eqb x f.xd g.column, ne_eqb y f.yd other)
                (record {
                  sound = record {
                    column = g.column;
                    row = next_below p.sy y g.row;
                    least = omega arith;
                    most = omega arith;
                    few = omega (arith, g.few, back);
                    time = omega (arith, g.time);
                  };
                  rises = rw on (omega arith);
                })
          ]

      -- E leads one column on, in the source's row
      east_first : (c e x y : ℕ) → x < sx → y ≡ f.ys → j x < dx → c ≡ e + j x → Leads c 0 e x y (j x) (via East)
      unfolding reach
      east_first c e x y l row short time =
          let on : j (next sx x) ≡ j x + 1 = offset_on sx f.xs x f.xd ok.xs_on l ok.xd_on short in
          record {
            sound = inl (record { column = next_below sx x l; row = row; least = omega arith; most = omega arith; none = refl; time = omega arith });
            rises = omega (arith, along_first (next sx x) y (ap r row ∙ first_row));
          }

      -- and in a later row
      east_later : (c D e x y n : ℕ) → x < sx → y < p.sy → 1 ≤ r y → r y ≤ dy → 1 ≤ D → D ≤ limit (r y) → Bends limit (r y)
          → c + 1 + sx ≡ e + (dx + r y + D * sx + k (next sx x)) → n < r y * suc sx + k (next sx x) → Leads c D e x y n (via East)
      unfolding reach
      east_later c D e x y n l m least most some few turning time more =
          record {
            sound = inr (record { column = next_below sx x l; row = m; least = least; most = most; some = some; few = few; turning = turning; time = time });
            rises = rw (along_later (next sx x) y least) more;
          }

      module _ (rising : Rising limit) where
        -- who goes S: an N packet, and a W packet in its column
        pub placed_south : (c D e : ℕ) (at : Place) → OnPath c D e at → column_of at ≡ f.xd → GoesSouth c D e (column_of at) (row_of at)
        placed_south c D e (N x y) s turn =
            record { column = turn; row = s.row; most = s.most; few = omega (arith, s.few, rising (r y - 1) (r y) (omega arith)); time = s.time }
        placed_south c D e (W x y) (inl s) turn =
            let none : r y ≡ 0 = ap r s.row ∙ first_row in
            let whole : j x ≡ dx = ap j turn in
            let bare : D * sx ≡ 0 * sx = ap (λ (d : ℕ). d * sx) s.none in
            record { column = turn; row = rw s.row ok.ys_on; most = omega arith; few = omega (arith, s.none); time = omega (arith, s.time) }
        placed_south c D e (W x y) (inr s) turn =
            let round : k x ≡ sx = ap k turn ∙ lap_whole sx f.xd ok.xd_on in
            record { column = turn; row = s.row; most = s.most; few = s.few; time = omega (arith, s.time) }

        -- a placed packet's step, by rules 1 and 2; where it is deflected, it may be
        pub step_placed : (s : Seen) (c D e : ℕ) (at : Place) → OnPath c D e at → MayBend s at
            → Leads c (D + one (deflects s at)) e (column_of at) (row_of at) (progress at) (way_from s at f)
        step_placed v c D e (N x y) s bends =
            elim (test (turns_south x v.west)) [
              | inl turn ↦
                  let round : k (next sx x) ≡ 1 = ap (λ (z : ℕ). k (next sx z)) s.column ∙ lap_first sx f.xd ok.xd_on in
                  rw turn
                  (east_later c (D + 1) e x y (r y * suc sx) (rw s.column ok.xd_on) s.row s.least s.most
                  (omega arith) (omega (arith, s.few, bends turn)) (bends turn) (omega (arith, s.time)) (omega arith))
              | inr turn ↦ rw turn (leads_more (omega arith) (south c D e x y (placed_south c D e (N x y) s s.column)))
            ]
        step_placed v c D e (W x y) (inl s) bends =
            let none : r y ≡ 0 = ap r s.row ∙ first_row in
            let rows : r y * suc sx ≡ 0 * suc sx = ap (λ (n : ℕ). n * suc sx) none in
            let come = along_first x y none in
            elim (ℕ_discrete x f.xd) [
              | yes turn ↦
                  rw (eq-eqb x f.xd turn)
                  (leads_more (omega (arith, s.most, dx_below)) (south c D e x y (placed_south c D e (W x y) (inl s) turn)))
              | no other ↦
                  let short = offset_short sx f.xs x f.xd ok.xs_on s.column ok.xd_on s.most other in
                  rw (ne_eqb x f.xd other, s.none) (leads_more (omega arith) (east_first c e x y s.column s.row short s.time))
            ]
        step_placed v c D e (W x y) (inr s) bends =
            let come = along_later x y s.least in
            elim (ℕ_discrete x f.xd) [
              | yes turn ↦
                  let most = lap_most sx f.xd x ok.xd_on s.column in
                  rw (eq-eqb x f.xd turn) (leads_more (omega arith) (south c D e x y (placed_south c D e (W x y) (inr s) turn)))
              | no other ↦
                  let on = lap_next sx f.xd x ok.xd_on s.column other in
                  rw (ne_eqb x f.xd other)
                  (leads_more (omega arith)
                  (east_later c D e x y (r y * suc sx + k x) s.column s.row s.least s.most s.some s.few s.turning
                  (omega (arith, s.time)) (omega arith)))
            ]

      -- an entry, by rule 3: in cycle c, at the source, by the flow's port
      pub step_entry : (c : ℕ) → Leads c 0 c f.xs f.ys 0 (way_by f.xs f.ys f (port_of sx f))
      step_entry c =
          let none : j f.xs ≡ 0 = offset_same sx f.xs ok.xs_on in
          elim (dec_lt 0 dx) [
            | yes far ↦ rw (lt-ltb 0 dx far) (leads_more (omega arith) (east_first c c f.xs f.ys ok.xs_on refl (omega arith) (omega arith)))
            | no near ↦
                let own : dx ≡ 0 = omega arith in
                let top = first_row in
                let at : f.xs ≡ f.xd = offset_zero sx f.xs f.xd ok.xs_on ok.xd_on own in
                rw (le-ltb 0 dx (omega arith))
                (leads_more (omega arith)
                (south c 0 c f.xs f.ys (record { column = at; row = ok.ys_on; most = omega arith; few = omega arith; time = omega arith })))
          ]

      -- a place is a register of the torus
      pub placed_on : (c D e : ℕ) (at : Place) → OnPath c D e at → (column_of at < sx) × (row_of at < p.sy)
      placed_on c D e (N x y) h = (rw h.column ok.xd_on, h.row)
      placed_on c D e (W x y) (inl h) = (h.column, rw h.row ok.ys_on)
      placed_on c D e (W x y) (inr h) = (h.column, h.row)

      -- its entry was in an earlier cycle
      pub entered_before : (c D e : ℕ) (at : Place) → OnPath c D e at → e < c
      entered_before c D e (N x y) h = omega (arith, h.time, h.least)
      entered_before c D e (W x y) (inl h) = omega (arith, h.time, h.least)
      entered_before c D e (W x y) (inr h) = omega (arith, h.time, h.least, mul-le-mul_right sx h.some)

  -- on any state, where a packet may be deflected in every row
  pub every_bends : (s : Seen) (c D e : ℕ) (at : Place) → OnPath every_row c D e at → MayBend every_row s at
  every_bends s c D e (N x y) h t = omega (arith, h.least)
  every_bends s c D e (W x y) h t = absurd (false≢true t)
