-- `check_offer`: the definition's own tests.
use borrow.Author.Tests.{le-leb, lt-leb}
use Rattle.flow.specs.Limits.{offer_number}
use Rattle.state.proofs.View.{counted}
use Rattle.offer.proofs.check_offer.Goals as goal

pub returns-then-flows-f : goal.returns-then-flows-f
unfolding offer_number
returns-then-flows-f c = rw (counted, ← c.flows.ensures.value, le-leb _ _ c.if-flows-f.true)

pub returns-then-most_waiting-tally : goal.returns-then-most_waiting-tally
unfolding offer_number
returns-then-most_waiting-tally c =
    rw (
      counted,
      ← c.flows.ensures.value,
      lt-leb _ _ c.if-flows-f.false,
      ← c.tally.ensures.value,
      ← c.most_waiting.ensures,
      le-leb _ _ c.if-most_waiting-tally.true,
    ) c.full_queue.ensures

pub returns : goal.returns
unfolding offer_number
returns c =
    rw (
      counted,
      ← c.flows.ensures.value,
      lt-leb _ _ c.if-flows-f.false,
      ← c.tally.ensures.value,
      ← c.most_waiting.ensures,
      lt-leb _ _ c.if-most_waiting-tally.false,
    )
