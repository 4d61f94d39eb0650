-- `route`: what the router sends is written to its neighbours, or delivered. Rests on what the code sends.
use Rattle.std.proofs.Common.{◌≡◌, ◌∙◌, refl, sym, cond, None, arith}
use Rattle.state.specs.Read.{state_of}
use Rattle.cycle.specs.Sent.{southward, exits}
use Rattle.cycle.specs.Step.{leaving, delivered}
use Rattle.cycle.proofs.Facts.{packet_below}
use Rattle.cycle.proofs.Sent.{delivered_is}
use Rattle.routing.specs.Walk.{Walking}
use Rattle.routing.proofs.OnGrid.{on_grid}
use Rattle.routing.proofs.Flows.{east_sent, south_sent, south_reaches}
use Rattle.routing.proofs.Push.{pushed_is}
use Rattle.routing.proofs.Walk.route.Goals as goal
use Rattle.routing.proofs.Walk.route.Goals.{After-deliver, After-exits, After-push, then-exits, else-exits}

walking : (c : goal.After-exits) → Walking c.args.self.now c.self.inside.grid c.self.inside.entrants.now
walking c = rw c.self.view_is at c.self.invariant

-- what goes on and what exits
split : (c : goal.After-push) → let s = state_of c.args.self.now in let a = c.args in let south = southward s a.x a.y in
    (c.if-exits.onward.0 ≡ cond (exits s.plan a.x a.y south) None south) × (c.if-exits.onward.1 ≡ cond (exits s.plan a.x a.y south) south None)
split c =
    let s = state_of c.args.self.now in
    let south : c.sent-sent.result.south ≡ southward s c.args.x c.args.y = rw c.sent-sent.ensures in
    let home : c.exits.result ≡ exits s.plan c.args.x c.args.y (southward s c.args.x c.args.y) = c.exits.ensures ∙ rw (c.self.view_is, south) in
    elim c.if-exits.branch [
      | then-exits w ↦ rw (w.onward-is, ← home, w.if-exits.true) (refl, south)
      | else-exits w ↦ rw (w.onward-is, ← home, w.if-exits.false) (south, refl)
    ]

pub exits-requires : goal.exits-requires
exits-requires c =
    let at = c.requires.x_bound in
    rw c.self.view_is (packet_below _ (rw c.sent-sent.ensures (south_sent _ (rw c.self.view_is at c.self.invariant).entered.facts _ _ at.0 at.1)))

pub push-requires : goal.push-requires
push-requires c =
    let walk = walking (goal.at.push-requires c).After-exits in
    let at = c.requires.x_bound in (
      on_grid walk _ _ at.0 at.1,
      (rw c.sent-sent.ensures (east_sent _ walk.entered.facts _ _ at.0 at.1), rw walk.grid c.requires.state_in_bounds),
    )

pub push-requires-2 : goal.push-requires-2
push-requires-2 c =
    let here = (goal.at.push-requires-2 c).After-push in
    let walk = walking (goal.at.push-requires-2 c).After-exits in
    let at = c.requires.x_bound in (
      on_grid walk _ _ at.0 at.1,
      (
        rw (split here).0 (south_reaches _ walk.entered.facts _ _ at.0 at.1 _),
        rw walk.grid (omega (arith, c.requires.state_in_bounds, c.push.auto.next)),
      ),
    )

-- what exits is what the router delivers
gone : (c : goal.After-deliver) → let a = c.args in leaving c.clock.result c.if-exits.onward.1 ≡ delivered (state_of a.self.now) a.x a.y
unfolding state_of
gone c = rw ((split (goal.at.After-deliver c).After-push).1, c.clock.ensures.value, c.self.view_is) (sym (delivered_is _ _ _))

pub returns-clause-next_after : goal.returns-clause-next_after
returns-clause-next_after c =
    let walk = walking (goal.at.returns-clause-next_after c).After-exits in
    c.push-2.ensures
    ∙ rw ((split (goal.at.returns-clause-next_after c).After-push).0, c.push.ensures, c.sent-sent.ensures, walk.grid) (pushed_is _ _ _ _)

pub returns-clause-value : goal.returns-clause-value
returns-clause-value c = c.deliver.ensures.value ∙ rw (gone (goal.at.returns-clause-value c).After-deliver)

pub returns-clause-delivery_after : goal.returns-clause-delivery_after
returns-clause-delivery_after c = c.deliver.ensures.delivery_after ∙ rw (gone (goal.at.returns-clause-delivery_after c).After-deliver)
