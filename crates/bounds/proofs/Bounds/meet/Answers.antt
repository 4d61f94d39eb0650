-- `meet`: f itself is no rival; another flow is kept with its conflict, by the laws of gathering.
use mathlib.Core.Path.{◌≡◌}
use native.Mathlib.Omega.{arith}
use Rattle.flow.specs.Plan.{flow_at}
use Rattle.flow.specs.Ranges.{PlanOk}
use Rattle.file.specs.Layout.{plan_of}
use Rattle.plan.proofs.Ranges.{plan_count}
use Rattle.turning.specs.Columns.{TurningIn}
use Rattle.conflict.specs.Conflict.{conflict}
use Rattle.conflict.proofs.Told.{conflict_told}
use Rattle.window.proofs.Gathered.{among_self, among_more}
use Rattle.window.proofs.Rates.{rates_most}
use Rattle.bounds.proofs.Opened.{flow_fits_lem, flow_pair, word_small}
use Rattle.bounds.proofs.Bounds.meet.Given as given
use Rattle.bounds.proofs.Bounds.meet.Goals as goal
use Rattle.bounds.proofs.Bounds.meet.Goals.{After-conflict, After-flow-other}

pub returns-then-g-f : goal.returns-then-g-f
returns-then-g-f g c = among_self _ _ _ _ c.requires.rivals_among c.if-g-f.true

pub invariant_of-meeting-clause-pair : goal.invariant_of-meeting-clause-pair
invariant_of-meeting-clause-pair g c =
    let file = c.args.self.now in
    let ok : PlanOk (plan_of file) = rw c.self.view_is at c.self.invariant.0 in
    let p = c.requires.flows in
    rw (c.torus.ensures.plan.0, c.torus.ensures.plan.1, c.flow-other.ensures, c.self.view_is, c.requires.own_value.0)
    (flow_pair file ok _ p.0 _ p.1)

pub invariant_of-meeting-clause-rows : goal.invariant_of-meeting-clause-rows
invariant_of-meeting-clause-rows g c =
    let file = c.args.self.now in
    let ok : PlanOk (plan_of file) = rw c.self.view_is at c.self.invariant.0 in
    let tell : TurningIn (plan_of file) c.self.inside.columns = rw c.self.view_is at c.self.invariant.1 in
    rw (c.torus.ensures.plan.1, c.flow-other.ensures, c.self.view_is)
    (word_small file ok _ c.requires.flows.1 _ tell)

pub conflict-requires : goal.conflict-requires
conflict-requires g c =
    rw (c.torus.ensures.plan.0, c.self.view_is) c.requires.own_value.1

-- the conflict of the two flows of the plan
met : (g : given.Over) (c : After-conflict g) → let p = plan_of c.args.self.now in
    c.conflict.result ≡ conflict p (flow_at p c.args.f) (flow_at p c.args.g)
met g c =
    let file = c.args.self.now in
    let ok : PlanOk (plan_of file) = rw c.self.view_is at c.self.invariant.0 in
    let tell : TurningIn (plan_of file) c.self.inside.columns = rw c.self.view_is at c.self.invariant.1 in
    let p = c.requires.flows in
    rw (c.conflict.ensures, c.torus.ensures.plan.0, c.torus.ensures.plan.1, c.flow-other.ensures, c.self.view_is, c.requires.own_value.0)
    (conflict_told _ _ tell _ _ (flow_pair file ok _ p.0 _ p.1))

pub keep-requires : goal.keep-requires
keep-requires g c =
    let file = c.args.self.now in
    let ok : PlanOk (plan_of file) = rw c.self.view_is at c.self.invariant.0 in
    let fits = flow_fits_lem file ok _ c.requires.flows.1 in
    let few = c.requires.rivals_among.few in
    (omega arith, ((omega arith, omega (arith, rates_most c.args.rivals.now)), rw (rw c.self.view_is at c.flow-other.ensures) fits.period_least))

pub returns : goal.returns
returns g c =
    let file = c.args.self.now in
    let ok : PlanOk (plan_of file) = rw c.self.view_is at c.self.invariant.0 in
    let p = c.requires.flows in
    let other = rw c.self.view_is at c.flow-other.ensures in
    let count = plan_count file in
    rw (c.keep.ensures, other, met g (goal.at.returns g c).After-conflict)
    (among_more _ _ _ _ c.requires.rivals_among ok (rw count p.0) (rw count p.1) c.if-g-f.false)
