-- Words that form a state hold the state that they have. Rests on Holds, View and Forms.
use mathlib.Core.List.{List}
use mathlib.Core.Path.{◌≡◌, refl}
use Prim.Native.Nat.{ℕ, ◌+◌, ◌-◌, ◌≤◌, ◌<◌}
use native.Mathlib.Nat.{add-zero}
use native.Mathlib.Decide.{ℕ_discrete}
use native.Mathlib.Omega.{arith}
use borrow.Author.Tests.{eq-eqb, ne_eqb}
use lib.ListN.{length, get_or, drop}
use Rattle.laws.specs.Bounded.{tabulate}
use Rattle.laws.proofs.Stands.{Stands, stands_entries, stands_append}
use Rattle.place.specs.Place.{W, N}
use Rattle.std.specs.Prelude.{None}
use Rattle.state.specs.Layout.{header_size, flow_size, register_size, flow_place, router_place, plan_size}
use Rattle.state.specs.State.{cell_at}
use Rattle.state.specs.Words.{header_words, flow_words, register_words, cell_words}
use Rattle.state.specs.Read.{sx_in, sy_in, count_in, clock_in, flow_in, tally_in, register_in, cell_in, router_in, plan_in, state_of}
use Rattle.state.proofs.Words.{length_register, router_below}
use Rattle.state.proofs.Holds.{HoldsState}
use Rattle.state.proofs.View.{view_count, view_size, view_flow, view_tally, view_cell}
use Rattle.state.specs.Facts.{HeaderFacts, StateFacts}
use Rattle.state.proofs.Forms.{empty_facts}

module _ (w : List ℕ) where
  -- a flow's ten words are those of what is read from them
  flow_again : (at : ℕ) → at + flow_size ≤ length w → Stands 0 w at (flow_words (flow_in w at) (tally_in w at))
  unfolding tabulate
  flow_again at h = rw add-zero at (stands_entries 0 w at 10 h)

  -- a register's four words too, if it holds a packet or is four zeros
  register_again : (at : ℕ) → at + register_size ≤ length w
      → (register_in w at ≡ None → (k : ℕ) → k < register_size → get_or w (at + k) 0 ≡ 0) → Stands 0 w at (register_words (register_in w at))
  unfolding tabulate
  register_again at h zeros =
      let all = rw add-zero at (stands_entries 0 w at 4 h) in
      elim (ℕ_discrete (get_or w at 0) 0) [
        | yes e ↦
            let none : register_in w at ≡ None = rw (eq-eqb (get_or w at 0) 0 e) in
            rw none (rw (e, zeros none 1 (omega arith), zeros none 2 (omega arith), zeros none 3 (omega arith)) at all)
        | no e ↦
            let some = ne_eqb (get_or w at 0) 0 e in
            let more : get_or w at 0 - 1 + 1 ≡ get_or w at 0 = omega arith in
            rw (some, more) all
      ]

  header_again : HeaderFacts w → header_size ≤ length w → Stands 0 w 0 (header_words (plan_in w) (clock_in w))
  unfolding tabulate plan_in
  header_again h long =
      rw (view_count w)
      (rw (h.zeros 0 (omega arith), h.zeros 1 (omega arith), h.zeros 2 (omega arith), h.zeros 3 (omega arith))
      at (stands_entries 0 w 0 8 long))

  module _ (h : StateFacts w) where
    -- both registers of a router
    cell_again : (x y : ℕ) → x < sx_in w → y < sy_in w → Stands 0 w (router_in w x y) (cell_words (cell_in w (router_in w x y)))
    cell_again x y l m =
        let at = router_in w x y in
        let room = router_below (count_in w) (sx_in w) (sy_in w) x y l m in
        let long = h.long in
        stands_append 0 w (register_words (register_in w at)) (register_words (register_in w (at + register_size))) at
        (register_again at (omega arith) (empty_facts w (W x y) at (h.west x y l m)))
        (rw (length_register (register_in w at))
        (register_again (at + register_size) (omega arith) (empty_facts w (N x y) (at + register_size) (h.north x y l m))))

    pub state_again : HoldsState (state_of w) (drop (plan_size (state_of w).plan) w) w
    unfolding state_of plan_in
    state_again =
        let long = h.long in
        record {
          front = record {
            room = rw (view_size w) h.long;
            head = header_again h.header (omega arith);
            flow = λ f l.
                let m : f < count_in w = rw (view_count w) at l in
                rw (view_flow w f m, view_tally w f m) (flow_again (flow_place f) (omega arith));
            past = refl;
          };
          router = routers;
        }
      where
        routers : (x y : ℕ) → x < (plan_in w).sx → y < (plan_in w).sy
            → Stands 0 w (router_place (length (plan_in w).flows) (plan_in w).sx x y) (cell_words (cell_at (state_of w) x y))
        routers x y l m = rw (view_count w, view_cell w x y l m) (cell_again x y l m)
