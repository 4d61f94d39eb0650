-- `feed_groups`: one group more, at its flow's record.
use Rattle.delivery.specs.Inner.{as_told}
use Rattle.feed.proofs.Fed.{fed_next}
use Rattle.feed.proofs.feed_groups.Goals as goal

pub loop-group-preserved : goal.loop-group-preserved
loop-group-preserved c =
    let d = as_told c.from-d.result in
    let i = c.loop-group.group-index in
    fed_next c.args.groups.now c.args.last i _ _ d _ _ c.loop-group-test.true c.from-d.ensures c.loop-group.invariant
    (rw c.loop-group.auto.records (c.requires.flow_below i c.loop-group-test.true)) c.kept_with.ensures
