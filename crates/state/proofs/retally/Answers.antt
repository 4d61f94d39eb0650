-- `retally`: turn by turn. Rests on the laws of such a walk.
use Rattle.std.proofs.Common.{◌≡◌, ◌∙◌, refl, arith}
use Rattle.state.specs.Read.{count_in}
use Rattle.state.proofs.Tallied.{flow_here, tally_here, retallied_none, retallied_more}
use Rattle.state.proofs.retally.Goals as goal

pub loop-f-init : goal.loop-f-init
loop-f-init g c = (omega arith, (refl, retallied_none _ _))

pub next-tally-requires : goal.next-tally-requires
next-tally-requires g c =
    let below = c.loop-f-test.true in
    let walk = c.loop-f.invariant.1.1 in
    rw (
      c.flow_in.ensures,
      c.tally_in.ensures,
      flow_here _ _ c.requires.facts _ below _ _ walk c.flow_place-at.ensures,
      tally_here _ _ c.requires.facts _ below _ _ walk c.flow_place-at.ensures,
    )
    (c.requires.callable _ below)

pub loop-f-preserved : goal.loop-f-preserved
loop-f-preserved g c =
    let walk = c.loop-f.invariant.1.1 in
    let here = rw (c.flow_in.ensures, c.tally_in.ensures) at c.next-tally.ensures in (
      omega arith,
      (
        c.put_tally.auto.w ∙ c.loop-f.invariant.1.0,
        rw c.put_tally.ensures (retallied_more _ _ c.requires.facts _ c.loop-f-test.true _ _ walk c.flow_place-at.ensures _ here),
      ),
    )

pub returns : goal.returns
returns g c =
    let e : c.loop-f.f ≡ count_in c.args.state.now = omega arith in
    rw e at c.loop-f.invariant.1.1
