-- `is_idle`: nobody enters there, and no packet stands where the first words of both registers are 0.
use Rattle.std.proofs.Common.{◌≡◌, ◌∙◌, refl, sym, ap, Bool, true, false, cond, ◌&&◌, List, ℕ, ◌+◌, ◌-◌, ◌<◌, nat_eq, get_or, Some, None, is_none}
use Rattle.std.specs.Prelude as Prelude
use Rattle.router.specs.Rule.{entrant}
use Rattle.state.specs.Register.{packet_with}
use Rattle.state.specs.Layout.{register_size}
use Rattle.state.specs.Read.{sx_in, sy_in, router_in, register_in, state_of}
use Rattle.state.proofs.View.{view_cell}
use Rattle.cycle.specs.Seen.{view}
use Rattle.cycle.proofs.Sent.{none_is}
use Rattle.entry.specs.Entrants.{entrant_in}
use Rattle.routing.specs.Sent.{nobody}
use Rattle.routing.proofs.OnGrid.{entrant_there, entrant_is}
use Rattle.routing.proofs.Walk.is_idle.Goals as goal
use Rattle.routing.proofs.Walk.is_idle.Goals.{After-is_none, After-router_index-router}

nobody_in : (who : Prelude.Option ℕ) → nobody (entrant_in who) ≡ is_none who
unfolding entrant_in
nobody_in None = refl
nobody_in (Some f) = refl

-- no packet stands where the first word is 0
vacant : (w : List ℕ) (at : ℕ) → is_none (register_in w at) ≡ nat_eq (get_or w at 0) 0
vacant w at = by (nat_eq (get_or w at 0) 0)
  where
    by : (t : Bool) → is_none (cond t None (Some (packet_with (get_or w at 0 - 1) (get_or w (at + 1) 0) (get_or w (at + 2) 0) (get_or w (at + 3) 0)))) ≡ t
    by true = refl
    by false = refl

three : (a b c : Bool) → a && (b && c) ≡ a && b && c
three true b c = refl
three false b c = refl

on : (c : goal.After-router_index-router) → (c.args.x < sx_in c.self.inside.state.now) × (c.args.y < sy_in c.self.inside.state.now)
on c = rw (← c.self.view_is) at c.requires

pub bounds-self-inside-router : goal.bounds-self-inside-router
bounds-self-inside-router c =
    let h = on (goal.at.bounds-self-inside-router c).After-router_index-router in
    rw c.router_index-router.ensures.0 (entrant_there c.self.invariant _ _ h.0 h.1)

-- whether nobody enters there
alone : (c : goal.After-is_none) → let s = state_of c.self.inside.state.now in nobody (entrant s.plan (view s) c.args.x c.args.y) ≡ c.is_none.result
alone c =
    let router = (goal.at.After-is_none c).After-router_index-router in
    let h = on router in
    ap nobody (sym (entrant_is c.self.invariant _ _ h.0 h.1)) ∙ nobody_in _ ∙ none_is _ _ (rw c.router_index-router.ensures.0 at c.is_none.ensures)

pub returns : goal.returns
returns c =
    let w = c.self.inside.state.now in
    let h = on (goal.at.returns c).After-router_index-router in
    let at = router_in w c.args.x c.args.y in
    rw (
      ← c.self.view_is,
      alone (goal.at.returns c).After-is_none,
      view_cell w c.args.x c.args.y h.0 h.1,
      vacant w at,
      vacant w (at + register_size),
      c.is_vacant.ensures,
      c.words.ensures.value,
      c.router_place-at.ensures,
      c.self.invariant.grid,
    )
    (three c.is_none.result (nat_eq (get_or w at 0) 0) (nat_eq (get_or w (at + register_size) 0) 0))
