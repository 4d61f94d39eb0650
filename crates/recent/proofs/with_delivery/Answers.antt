-- `with_delivery`: the record of the kept ones.
use Prim.Native.Nat.{◌+◌, ◌-◌}
use Rattle.recent.specs.Recent.{one_more, telling, with_delivery}
use Rattle.recent.proofs.Kept.{kept_laid}
use Rattle.recent.proofs.with_delivery.Goals as goal

pub returns : goal.returns
unfolding with_delivery telling
returns c =
    let a = c.args in
    let held = c.held_by-held.result in
    let kept = held + 1 - (held + 1 - a.last) in
    rw (
      ← c.held_by-held.ensures.value,
      c.largest-2.ensures,
      c.largest.ensures,
      c.one_more-deflections.ensures.value,
      c.one_more-flights.ensures.value,
      c.gone.ensures,
      kept_laid (one_more a.last held a.r.flights a.flight) kept c.one_more-flights.ensures.x_len,
      kept_laid (one_more a.last held a.r.deflections a.d) kept c.one_more-deflections.ensures.x_len,
      c.one_more-flights.ensures.x_len,
    )
