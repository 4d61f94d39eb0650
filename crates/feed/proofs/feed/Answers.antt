-- `feed`: the state's own refusal, the later one, or the records with all groups.
use Rattle.std.proofs.Common.{◌≡◌, sym, ◌∙◌}
use Rattle.state.proofs.Causes.{cause_refuses}
use Rattle.state.proofs.Forms.{state_facts}
use Rattle.state.specs.Forms.{state_number}
use Rattle.feed.specs.Feed.{feed_on}
use Rattle.feed.proofs.Accepted.{accepted, feedable, feed_checks, feed_accepts}
use Rattle.feed.proofs.feed.Goals as goal

pub returns-in_err-read_state : goal.returns-in_err-read_state
unfolding feed_on
returns-in_err-read_state c =
    cause_refuses _ _ _ _ _ _ c.in_err-read_state.ensures.number c.from_residual.ensures.1

pub returns-in_err-check_records : goal.returns-in_err-check_records
returns-in_err-check_records c =
    let formed : state_number c.args.state.now ≡ 0 = sym c.in_ok-read_state.ensures.number in
    cause_refuses _ _ _ _ _ _ (rw c.in_ok-read_state.ensures.words at c.in_err-check_records.ensures) c.from_residual-in_err-check_records.ensures.1
    ∙ feed_checks _ _ _ _ formed

pub feed_groups-requires : goal.feed_groups-requires
feed_groups-requires c =
    let a = c.args in
    let formed : state_number a.state.now ≡ 0 = sym c.in_ok-read_state.ensures.number in
    feedable a.state.now (state_facts _ formed) _ _ _
    (rw c.whole_groups.ensures (accepted _ _ _ _ (sym (rw c.in_ok-read_state.ensures.words at c.in_ok-check_records.ensures))))

pub returns : goal.returns
returns c =
    let a = c.args in
    let formed : state_number a.state.now ≡ 0 = sym c.in_ok-read_state.ensures.number in
    rw (c.feed_groups.ensures, c.whole_groups.ensures)
    (sym (feed_accepts a.state.now a.deliveries.now a.last a.records.now formed
    (accepted _ _ _ _ (sym (rw c.in_ok-read_state.ensures.words at c.in_ok-check_records.ensures)))))
