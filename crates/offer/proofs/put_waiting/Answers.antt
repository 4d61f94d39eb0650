-- `put_waiting`: the flow's tally, with so many waiting.
use mathlib.Core.Path.{◌∙◌}
use Rattle.offer.proofs.Waits.{waiting_over}
use Rattle.offer.proofs.put_waiting.Goals as goal

pub returns : goal.returns
returns c =
    let a = c.args in
    c.put_tally.ensures
    ∙ waiting_over _ c.requires.facts a.f c.requires.below a.waiting _ _ c.flow_place.ensures (rw (c.tally.ensures.value, c.of.ensures))
