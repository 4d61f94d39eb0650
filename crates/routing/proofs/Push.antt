-- Routers that write to the registers that their outputs reach fill every register once. Rests on specs/Walk and the law of links.
use mathlib.Core.Bool.{false, cond, ◌&&◌, and-false, false≢true}
use mathlib.Core.List.{List}
use mathlib.Core.Logic.{◌⊎◌, inl, inr, ◌≢◌}
use mathlib.Core.Path.{◌≡◌, refl, sym, subst, ◌∙◌}
use Prim.Native.Nat.{ℕ, zero, suc, ◌+◌, ◌*◌, ◌≤◌, ◌<◌}
use native.Mathlib.Decide.{dec_le}
use native.Mathlib.Omega.{arith}
use borrow.Author.Tests.{ne_eqb}
use lib.Dec.{eqb}
use lib.ListN.{length, get_or}
use lib.Seq.{length-sets}
use Rattle.laws.specs.Grid.{cell_index}
use Rattle.laws.specs.Turns.{turns}
use Rattle.laws.proofs.Cases.{test, both_eqb}
use Rattle.laws.proofs.Grid.{cell_one}
use Rattle.laws.proofs.Stands.{Stands, stands_sets, stands_other, stands_append}
use Rattle.laws.proofs.Turns.{turns_along, turns_fill}
use Rattle.flow.specs.declared.Port.{Port}
use Rattle.flow.specs.declared.Port.TheVariants.{East, South}
use Rattle.flow.specs.Offsets.{same_port}
use Rattle.flow.specs.Plan.{Plan}
use Rattle.place.specs.Place.{Place, W, N, column_of, row_of, same_place}
use Rattle.router.specs.Links.{reach, feeder}
use Rattle.router.specs.Rule.{via}
use Rattle.router.proofs.Links.{reach_same, feeder_on, reach_feeder}
use Rattle.std.specs.Prelude.{None}
use Rattle.state.specs.Layout.{register_size, router_size}
use Rattle.state.specs.Words.{register_words, cell_words}
use Rattle.state.specs.Read.{sx_in, sy_in, plan_in, state_of}
use Rattle.state.proofs.Words.{length_register}
use Rattle.cycle.specs.Sent.{eastward, southward, exits}
use Rattle.cycle.specs.Step.{carried, next_register, next_cell}
use Rattle.cycle.proofs.Sent.{east_is, south_is}
use Rattle.output.specs.Grid.{torus_of, register_place, push}
use Rattle.output.proofs.Reach.{reach_on, reach_fits}
use Rattle.routing.specs.Sent.{is_idle}
use Rattle.routing.specs.Walk.{grid_in, registers_in, pushed, passed, pushed_row, pushed_all}
use Rattle.routing.proofs.Idle.{idle_carries, passed_idle, passed_busy}

-- two registers that don't meet
cells_apart : (sx x y x' y' : ℕ) → x < sx → x' < sx → eqb x x' && eqb y y' ≡ false → cell_index sx x y ≢ cell_index sx x' y'
cells_apart sx x y x' y' h k no' e =
    let same = cell_one sx x y x' y' h k e in
    false≢true (sym no' ∙ both_eqb x x' y y' same.0 same.1)

abbrev Ends : (sx : ℕ) → (a b : Place) → Type 0
Ends sx a b = register_place sx a + register_size ≤ register_place sx b

apart : (sx : ℕ) (a b : Place) → column_of a < sx → column_of b < sx → same_place a b ≡ false → Ends sx a b ⊎ Ends sx b a
apart sx a b h k no' = elim (dec_le (register_place sx a + register_size) (register_place sx b)) [ yes l ↦ inl l | no l ↦ inr (behind a b h k no' l) ]
  where
    behind : (a b : Place) → column_of a < sx → column_of b < sx → same_place a b ≡ false → (Ends sx a b → ⊥) → Ends sx b a
    behind (W x y) (W x' y') h k no' l = let ne = cells_apart sx x y x' y' h k no' in omega arith
    behind (W x y) (N x' y') h k no' l = omega arith
    behind (N x y) (W x' y') h k no' l = omega arith
    behind (N x y) (N x' y') h k no' l = let ne = cells_apart sx x y x' y' h k no' in omega arith

module _ (w : List ℕ) where
  -- the torus, and what an output of a router reaches and carries
  abbrev p : Plan
  p = torus_of (grid_in w)

  abbrev To : (x y : ℕ) → Port → Place
  To x y o = reach p x y o

  abbrev words : (x y : ℕ) → Port → List ℕ
  words x y o = register_words (carried (state_of w) x y (via o))

  length_sent : (x y : ℕ) (o : Port) → length (words x y o) ≡ register_size
  length_sent x y o = length_register (carried (state_of w) x y (via o))

  -- the registers are all there; an output has sent
  abbrev Room : List ℕ → Type 0
  Room l = registers_in w ≤ length l

  -- what stands where both outputs of a router reach
  abbrev Stand : (x y : ℕ) → (Port → List ℕ) → List ℕ → Type 0
  Stand x y v l = (o : Port) → Stands 0 l (register_place p.sx (To x y o)) (v o)

  abbrev push_by : (x y : ℕ) → Port → List ℕ → List ℕ
  push_by x y o l = push (grid_in w) x y o (carried (state_of w) x y (via o)) l

  puts : (x y : ℕ) (o : Port) (l : List ℕ) → x < p.sx → y < p.sy → Room l
      → Stands 0 (push_by x y o l) (register_place p.sx (To x y o)) (words x y o)
  puts x y o l h k room =
      stands_sets 0 l _ (words x y o) (omega (arith, reach_fits (grid_in w) x y o h k, length_sent x y o))

  -- another output leaves it
  leaves : (x y : ℕ) (o : Port) (a b : ℕ) (q : Port) (v l : List ℕ) → length v ≡ register_size → x < p.sx → y < p.sy → a < p.sx → b < p.sy
      → eqb a x && eqb b y && same_port o q ≡ false → Stands 0 l (register_place p.sx (To a b q)) v
      → Stands 0 (push_by x y o l) (register_place p.sx (To a b q)) v
  leaves x y o a b q v l long h k m n no' stands =
      stands_other 0 l _ v _ (words x y o) stands
      (rw (long, length_sent x y o)
      (apart p.sx (To a b q) (To x y o) (reach_on (grid_in w) a b q m n).0 (reach_on (grid_in w) x y o h k).0 (reach_same p a b x y q o m n h k ∙ no')))

  -- a router's turn keeps the room
  passed_length : (x y : ℕ) (l : List ℕ) → length (passed w x y l) ≡ length l
  unfolding pushed
  passed_length x y l =
      elim (test (is_idle (state_of w) x y)) [
        | inl e ↦ rw (passed_idle w x y l e)
        | inr e ↦ rw (passed_busy w x y l e) (rw (length-sets, length-sets))
      ]

  room_stays : (x y : ℕ) (l : List ℕ) → Room l → Room (passed w x y l)
  room_stays x y l room = rw (passed_length x y l) room

  -- and what another's outputs reach
  module _ (v : Port → List ℕ) (long : (o : Port) → length (v o) ≡ register_size) where
    turn_stays : (x y a b : ℕ) (l : List ℕ) → x < p.sx → y < p.sy → a < p.sx → b < p.sy → eqb a x && eqb b y ≡ false
        → Stand a b v l → Stand a b v (passed w x y l)
    unfolding pushed
    turn_stays x y a b l h k m n no' stand q =
        elim (test (is_idle (state_of w) x y)) [
          | inl e ↦ subst (λ t. Stands 0 t (register_place p.sx (To a b q)) (v q)) (sym (passed_idle w x y l e)) (stand q)
          | inr e ↦
              let east = leaves x y East a b q (v q) l (long q) h k m n (rw no') (stand q) in
              subst (λ t. Stands 0 t (register_place p.sx (To a b q)) (v q)) (sym (passed_busy w x y l e))
              (leaves x y South a b q (v q) _ (long q) h k m n (rw no') east)
        ]

    row_stays : (y b : ℕ) (l : List ℕ) → y < p.sy → b < p.sy → b ≢ y → (a : ℕ) → a < p.sx → Stand a b v l → Stand a b v (pushed_row w y l)
    unfolding pushed_row
    row_stays y b l k n ne a m =
        turns_along p.sx (λ x. passed w x y) l (Stand a b v) (λ x h. turn_stays x y a b _ h k m n (rw (ne_eqb b y ne, and-false)))

  -- nothing stands there; then a router's turn fills it
  abbrev blank : Port → List ℕ
  blank o = register_words None

  length_blank : (o : Port) → length (blank o) ≡ register_size
  length_blank o = refl

  fills : (x y : ℕ) (l : List ℕ) → x < p.sx → y < p.sy → Room l → Stand x y blank l → Stand x y (words x y) (passed w x y l)
  unfolding pushed
  fills x y l h k room empty q =
      elim (test (is_idle (state_of w) x y)) [
        | inl e ↦ rw (passed_idle w x y l e, idle_carries (state_of w) x y e (via q)) (empty q)
        | inr e ↦ subst (λ t. Stands 0 t (register_place p.sx (To x y q)) (words x y q)) (sym (passed_busy w x y l e)) (both q)
      ]
    where
      both : (o : Port) → Stands 0 (push_by x y South (push_by x y East l)) (register_place p.sx (To x y o)) (words x y o)
      both East = leaves x y South x y East (words x y East) _ (length_sent x y East) h k h k (rw and-false) (puts x y East l h k room)
      both South = puts x y South _ h k (rw length-sets room)

  -- so do the routers of a row, and all
  row_room : (y : ℕ) (l : List ℕ) → Room l → Room (pushed_row w y l)
  unfolding pushed_row
  row_room y l room = turns_along p.sx (λ x. passed w x y) l Room (λ x h. room_stays x y _) room

  row_fills : (y : ℕ) (l : List ℕ) → y < p.sy → Room l → ((x : ℕ) → x < p.sx → Stand x y blank l)
      → (x : ℕ) → x < p.sx → Stand x y (words x y) (pushed_row w y l)
  unfolding pushed_row
  row_fills y l k room empty =
      turns_fill p.sx (λ x. passed w x y) l (λ x m. Stand x y (words x y) m)
      (λ x h. fills x y _ h k (turns_along x (λ x. passed w x y) l Room (λ i j. room_stays i y _) room) (still x h))
      (λ x a h m. turn_stays (words a y) (length_sent a y) x y a y _ h k (omega arith) k (rw (ne_eqb a x (λ e. omega arith))))
    where
      still : (x : ℕ) → x < p.sx → Stand x y blank (turns x (λ x. passed w x y) l)
      still x h =
          turns_along x (λ x. passed w x y) l (Stand x y blank)
          (λ i j. turn_stays blank length_blank i y x y _ (omega arith) k h k (rw (ne_eqb x i (λ e. omega arith)))) (empty x h)

  all_fill : (l : List ℕ) → Room l → ((x y : ℕ) → x < p.sx → y < p.sy → Stand x y blank l)
      → (y : ℕ) → y < p.sy → (x : ℕ) → x < p.sx → Stand x y (words x y) (pushed_all w l)
  unfolding pushed_all
  all_fill l room empty =
      turns_fill p.sy (pushed_row w) l (λ y m. (x : ℕ) → x < p.sx → Stand x y (words x y) m)
      (λ y k. row_fills y _ k (turns_along y (pushed_row w) l Room (λ i j. row_room i _) room) (λ x h. still x y h k))
      (λ y b k n full x h. row_stays (words x b) (length_sent x b) y b _ k (omega arith) (λ e. omega arith) x h (full x h))
    where
      still : (x y : ℕ) → x < p.sx → y < p.sy → Stand x y blank (turns y (pushed_row w) l)
      still x y h k =
          turns_along y (pushed_row w) l (Stand x y blank)
          (λ i j. row_stays blank length_blank i y _ (omega arith) k (λ e. omega arith) x h) (empty x y h k)

  -- where all words are 0 nothing stands
  abbrev Clear : List ℕ → Type 0
  Clear l = (i : ℕ) → i < registers_in w → get_or l i 0 ≡ 0

  clear_blank : (l : List ℕ) → Room l → Clear l → (x y : ℕ) → x < p.sx → y < p.sy → Stand x y blank l
  clear_blank l room clear x y h k o =
      let inside = reach_fits (grid_in w) x y o h k in
      record { fits = omega (arith, room); same = λ j b. clear _ (omega arith) ∙ sym (zero_at j) }
    where
      zero_at : (j : ℕ) → get_or (register_words None) j 0 ≡ 0
      zero_at zero = refl
      zero_at (suc zero) = refl
      zero_at (suc (suc zero)) = refl
      zero_at (suc (suc (suc zero))) = refl
      zero_at (suc (suc (suc (suc j)))) = refl

  -- afterwards each register holds what the output that feeds it carried
  all_hold : (l : List ℕ) → Room l → Clear l → (at : Place) → column_of at < p.sx → row_of at < p.sy → let o = feeder p at in
      Stands 0 (pushed_all w l) (register_place p.sx at) (words o.x o.y o.port)
  all_hold l room clear at h k =
      let from = feeder_on p at h k in
      let o = feeder p at in
      rw (reach_feeder p at h k) at (all_fill l room (clear_blank l room clear) o.y from.1 o.x from.0 o.port)

  pub pushed_cell : (l : List ℕ) → registers_in w ≤ length l → Clear l → (x y : ℕ) → x < sx_in w → y < sy_in w
      → Stands 0 (pushed_all w l) (router_size * cell_index (sx_in w) x y) (cell_words (next_cell (state_of w) x y))
  unfolding next_register feeder state_of plan_in
  pushed_cell l room clear x y h k =
      stands_append 0 _ (register_words (next_register (state_of w) (W x y))) (register_words (next_register (state_of w) (N x y))) _
      (all_hold l room clear (W x y) h k)
      (rw (length_register (next_register (state_of w) (W x y))) (all_hold l room clear (N x y) h k))

  pub length_pushed : (l : List ℕ) → length (pushed_all w l) ≡ length l
  unfolding pushed_all pushed_row
  length_pushed l =
      turns_along p.sy (pushed_row w) l (λ m. length m ≡ length l)
      (λ y k e. turns_along p.sx (λ x. passed w x y) _ (λ m. length m ≡ length l) (λ x h e. passed_length x y _ ∙ e) e) refl

  -- by what the code sends
  pub pushed_is : (l : List ℕ) (x y : ℕ) → let s = state_of w in
      push (grid_in w) x y South (cond (exits s.plan x y (southward s x y)) None (southward s x y)) (push (grid_in w) x y East (eastward s x y) l)
      ≡ pushed w x y l
  unfolding pushed
  pushed_is l x y = rw (east_is (state_of w) x y, south_is (state_of w) x y)
