-- `add_entries`: entry by entry, up to the first that would be refused. Rests on Added.
use mathlib.Core.Path.{◌≡◌, refl, sym, ◌∙◌}
use native.Mathlib.Omega.{arith}
use Rattle.refusal.specs.Answer.{number_in}
use Rattle.state.specs.Read.{state_of}
use Rattle.refusal.proofs.Causes.{cause_some}
use Rattle.state.proofs.Forms.{state_facts}
use Rattle.cycle.specs.Set.{entry_number}
use Rattle.offers.proofs.Added.{added_none, added_few, added_forms, added_number, next_flow, added_more}
use Rattle.offers.proofs.add_entries.Goals as goal
use Rattle.offers.proofs.add_entries.Goals.{After-check_offer}

pub loop-k-init : goal.loop-k-init
loop-k-init c = (refl, added_none _ _ c.requires)

pub of-requires : goal.of-requires
of-requires c = state_facts _ (added_forms _ _ _ _ c.loop-k.invariant.1)

-- the number that was found is the entry's
found : (c : goal.After-check_offer) → number_in c.check_offer.result ≡ entry_number (state_of c.args.state.now) c.args.flows.now c.loop-k.k
found c = rw c.of.ensures at c.check_offer.ensures ∙ added_number _ _ _ _ c.loop-k.invariant.1 _ refl

-- as many entries as were added
pub overflow_cast-k : goal.overflow_cast-k
overflow_cast-k c = omega (arith, added_few _ _ _ _ c.loop-k.invariant.1)

pub returns-in-Err : goal.returns-in-Err
returns-in-Err c =
    let number = rw c.in-Err.is at (found (goal.at.returns-in-Err c).After-check_offer) in
    rw c.at.ensures
    (record { added = c.loop-k.invariant.1; inside = omega arith; here = number; some = cause_some c.in-Err.cause })

pub wait_more-requires : goal.wait_more-requires
wait_more-requires c =
    let free = rw c.in_default.is at (found (goal.at.wait_more-requires c).After-check_offer) in
    next_flow _ _ _ _ c.loop-k.invariant.1 _ refl (omega arith) (sym free)

pub loop-k-preserved : goal.loop-k-preserved
loop-k-preserved c =
    let free = rw c.in_default.is at (found (goal.at.loop-k-preserved c).After-check_offer) in
    (c.wait_more.auto.state ∙ c.loop-k.invariant.0, added_more _ _ _ _ c.loop-k.invariant.1 _ refl (omega arith) (sym free) _ c.wait_more.ensures)
