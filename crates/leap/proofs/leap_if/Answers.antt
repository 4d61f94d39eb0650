-- `leap_if`: the leap, or none.
use Rattle.leap.proofs.Words.{leapt_none}
use Rattle.leap.proofs.leap_if.Goals as goal

pub returns-then-not-may_leap : goal.returns-then-not-may_leap
returns-then-not-may_leap c = leapt_none _ _ (c.type_inv.state 3).fits
