-- `offer_set`: a refusal by the state's number, all entries added, or those that were taken back. Rests on Added and Ends.
use mathlib.Core.Path.{sym}
use Rattle.state.proofs.Causes.{cause_refuses}
use Rattle.cycle.specs.Set.{offer_set_on}
use Rattle.offers.proofs.Ends.{set_accepted, set_stops}
use Rattle.offers.proofs.offer_set.Goals as goal

pub returns-in_err-check_state : goal.returns-in_err-check_state
unfolding offer_set_on
returns-in_err-check_state c = cause_refuses _ _ _ _ _ _ c.in_err-check_state.ensures c.from_residual.ensures.1

pub add_entries-requires : goal.add_entries-requires
add_entries-requires c = sym c.in_ok-check_state.ensures

pub take_back-requires : goal.take_back-requires
take_back-requires c =
    let stop = rw c.in-Err.is at c.add_entries.ensures in
    (_, stop.added)

pub returns-in-Err : goal.returns-in-Err
returns-in-Err c =
    let stop = rw c.in-Err.is at c.add_entries.ensures in
    rw (c.take_back.ensures _ stop.added) (set_stops _ _ _ _ _ stop)

pub returns : goal.returns
returns c = set_accepted _ _ _ (rw c.in_default.is at c.add_entries.ensures)
