-- `advance_in`: what a cycle finds, stored. Rests on Next.
use mathlib.Core.Path.{◌∙◌}
use native.Mathlib.Nat.{le_trans}
use Rattle.router.specs.Delivery.{words_of}
use Rattle.state.specs.Read.{state_of}
use Rattle.state.proofs.Over.{over_sets}
use Rattle.cycle.specs.Step.{deliveries}
use Rattle.routing.proofs.Exits.{delivers_fit}
use Rattle.step.proofs.Next.{next_over}
use Rattle.step.proofs.advance_in.Goals as goal

pub returns : goal.returns
returns c =
    let w = c.args.state.now in
    let s = c.requires.stepping in
    let room = c.requires.room in
    let found = rw c.of.ensures at c.find_next-exits.ensures in
    record {
      state_after = c.store_next.ensures ∙ rw found.registers_after (next_over w s.facts _ room.registers_fit room.registers_clear);
      value = found.value;
      delivery_after = found.delivery_after ∙ over_sets (words_of (deliveries (state_of w))) c.args.delivery.now (le_trans (delivers_fit w) s.delivery_fits);
    }
