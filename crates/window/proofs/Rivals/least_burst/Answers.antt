-- `least_burst`: no number below t is a window, from the start on; where t is none, the leap skips none.
use mathlib.Core.Path.{sym}
use native.Mathlib.Omega.{arith}
use Rattle.window.proofs.Bursts.{least_at, least_none, leap}
use Rattle.window.proofs.Demand.{demand_time, demand_least, demand_most}
use Rattle.window.proofs.Rivals.least_burst.Goals as goal

pub loop-t-init : goal.loop-t-init
loop-t-init g c = (omega arith, λ u l m. omega (arith, demand_least _ u (rw (← c.self.view_is) at c.requires.rivals.1)))

pub overflow_add-d : goal.overflow_add-d
overflow_add-d g c =
    let rivals = rw (← c.self.view_is) at c.requires.rivals in
    let most = demand_most _ _ rivals.1 c.if-t-gt-MOST_WINDOW.false in
    omega (arith, rivals.0, rw c.deref.ensures.0 at c.demand_of.ensures)

pub loop-t-preserved : goal.loop-t-preserved
loop-t-preserved g c =
    let d = rw c.deref.ensures.0 at c.demand_of.ensures in
    (omega arith, rw d (leap _ _ (demand_time _) 1 _ c.loop-t.invariant.1 (rw d at c.if-d-t.false)))

pub returns-then-d-t : goal.returns-then-d-t
returns-then-d-t g c =
    let d = rw c.deref.ensures.0 at c.demand_of.ensures in
    let inv = c.loop-t.invariant in
    rw (← c.self.view_is) (sym (least_at _ _ _ 1 _ (record { from = inv.0; to = omega arith; free = rw d at c.if-d-t.true; tried = inv.1 })))

pub returns-then-t-gt-MOST_WINDOW : goal.returns-then-t-gt-MOST_WINDOW
returns-then-t-gt-MOST_WINDOW g c = rw (← c.self.view_is) (sym (least_none _ _ _ 1 (λ u l m. c.loop-t.invariant.1 u l (omega arith))))
