-- What a walk over routers pushes and delivers, turn by turn: five words for each exit, row by row. Rests on the words of deliveries.
use mathlib.Core.List.{List, []}
use mathlib.Core.Path.{◌≡◌, refl, ◌∙◌}
use Prim.Native.Nat.{ℕ, suc, ◌+◌, ◌*◌, ◌≤◌, ◌<◌}
use native.Mathlib.Nat.{add-zero, mul-le-mul_left, mul-suc}
use native.Mathlib.Numerals.{add-one}
use native.Mathlib.Omega.{arith}
use lib.ListN.{length, length-append}
use lib.Seq.{sets, length-sets}
use Rattle.laws.specs.Count.{join_below}
use Rattle.laws.specs.Turns.{turns}
use Rattle.laws.proofs.Stands.{sets_append}
use Rattle.laws.proofs.Turns.{turns_none, turns_more}
use Rattle.flow.specs.Limits.{exit_size}
use Rattle.router.specs.Delivery.{Delivery, words_of}
use Rattle.router.proofs.Delivery.{words_append, words_length}
use Rattle.state.specs.Read.{sx_in, sy_in, plan_in, state_of}
use Rattle.state.specs.Facts.{StateFacts}
use Rattle.cycle.specs.Step.{delivered, deliveries}
use Rattle.cycle.proofs.Facts.{cells_most}
use Rattle.cycle.proofs.Deliveries.{row_exits, rows_exits, exits_fit}
use Rattle.output.specs.Grid.{ExitRoom}
use Rattle.routing.specs.Walk.{passed, pushed_row, row_delivers}

-- a walk whose turn i pushes registers into the next words and delivers
pub record Walk : Type 0 where
  pub pushes : ℕ → List ℕ → List ℕ
  pub delivers : ℕ → List Delivery

-- what it leaves after n turns, begun with `count` exits: next words, delivery memory and count
pub record Walked (walk : Walk) (next₀ delivery₀ : List ℕ) (count n : ℕ) (next delivery : List ℕ) (done : ℕ) : Type 0 where
  pub next_is : next ≡ turns n walk.pushes next₀
  pub next_long : length next ≡ length next₀
  pub done_is : done ≡ count + length (join_below n walk.delivers)
  pub delivery_is : delivery ≡ sets delivery₀ (exit_size * count) (words_of (join_below n walk.delivers))

module _ (walk : Walk) (next₀ delivery₀ : List ℕ) (count : ℕ) where
  pub walked_none : Walked walk next₀ delivery₀ count 0 next₀ delivery₀ count
  walked_none = record { next_is = turns_none walk.pushes next₀; next_long = refl; done_is = omega arith; delivery_is = refl }

  pub walked_long : {n : ℕ} {next delivery : List ℕ} {done : ℕ} → Walked walk next₀ delivery₀ count n next delivery done
      → length delivery ≡ length delivery₀
  walked_long w = rw w.delivery_is (rw length-sets)

  module _ (n : ℕ) (next delivery : List ℕ) (done : ℕ) (w : Walked walk next₀ delivery₀ count n next delivery done)
      (next' delivery' : List ℕ) (done' : ℕ) (pushes : next' ≡ walk.pushes n next) (long : length next' ≡ length next) where
    abbrev before : List Delivery
    before = join_below n walk.delivers

    -- one turn more
    pub walked_more : done' ≡ done + length (walk.delivers n) → delivery' ≡ sets delivery (exit_size * done) (words_of (walk.delivers n))
        → Walked walk next₀ delivery₀ count (n + 1) next' delivery' done'
    walked_more q r =
        let behind : exit_size * done ≡ exit_size * count + length (words_of before) = omega (arith, w.done_is, words_length before) in
        record {
          next_is = pushes ∙ turns_more n walk.pushes next₀ next w.next_is;
          next_long = long ∙ w.next_long;
          done_is = rw add-one (omega (arith, w.done_is, length-append before (walk.delivers n)));
          delivery_is =
              r
              ∙ rw (w.delivery_is, behind, add-one, words_append before (walk.delivers n))
              (sets_append delivery₀ (exit_size * count) (words_of before) (words_of (walk.delivers n)));
        }

    -- and with no exit
    pub walked_quiet : walk.delivers n ≡ [] → done' ≡ done → delivery' ≡ delivery → Walked walk next₀ delivery₀ count (n + 1) next' delivery' done'
    walked_quiet none' q r = walked_more (rw (none', add-zero) q) (rw none' r)

module _ (w : List ℕ) where
  -- the routers of row y
  abbrev pub row_walk : (y : ℕ) → Walk
  row_walk y = record { pushes = λ x. passed w x y; delivers = λ x. delivered (state_of w) x y }

  -- one more has room
  pub row_room : (y count n : ℕ) (next₀ delivery₀ next delivery : List ℕ) (done : ℕ)
      → Walked (row_walk y) next₀ delivery₀ count n next delivery done → ExitRoom count (sx_in w) delivery₀ → n < sx_in w → ExitRoom done 1 delivery
  row_room y count n next₀ delivery₀ next delivery done walked room h =
      let long = walked_long (row_walk y) next₀ delivery₀ count walked in
      let most = row_exits (state_of w) y n in
      record { few = omega (arith, walked.done_is, room.few); room = omega (arith, walked.done_is, room.room) }

  -- all rows
  abbrev pub all_walk : Walk
  all_walk = record { pushes = pushed_row w; delivers = row_delivers w }

  all_most : (n : ℕ) → length (join_below n (row_delivers w)) ≤ sx_in w * n
  unfolding row_delivers state_of plan_in
  all_most n = rows_exits (state_of w) n

  -- one more has room
  pub all_room : StateFacts w → (n : ℕ) (next₀ delivery₀ next delivery : List ℕ) (done : ℕ)
      → Walked all_walk next₀ delivery₀ 0 n next delivery done → exit_size * (sx_in w * sy_in w) ≤ length delivery₀ → n < sy_in w
      → ExitRoom done (sx_in w) delivery
  all_room facts n next₀ delivery₀ next delivery done walked room h =
      let long = walked_long all_walk next₀ delivery₀ 0 walked in
      let most = all_most n in
      let rows = mul-le-mul_left {m = suc n} {n = sy_in w} (sx_in w) h in
      let row = mul-suc (sx_in w) n in
      record { few = omega (arith, walked.done_is, cells_most w facts); room = omega (arith, walked.done_is) }

  pub all_delivered : join_below (sy_in w) (row_delivers w) ≡ deliveries (state_of w)
  unfolding deliveries row_delivers state_of plan_in
  all_delivered = refl

  -- their words fit where 10 isn't refused
  pub delivers_fit : length (words_of (deliveries (state_of w))) ≤ exit_size * (sx_in w * sy_in w)
  unfolding state_of plan_in
  delivers_fit = exits_fit (state_of w)
