-- `pass_flows`: each flow's call. Rests on the law of such a walk.
use Rattle.std.proofs.Common.{rules}
use Rattle.cycle.proofs.Facts.{flow_ok}
use Rattle.state.proofs.Tallied.{retallied}
use Rattle.leap.proofs.pass_flows.Goals as goal

pub retally-requires-clause-callable : goal.retally-requires-clause-callable
retally-requires-clause-callable c = λ f below. let ok = flow_ok _ c.requires f below in search ok.period_least

pub returns : goal.returns
returns c = retallied _ _ _ _ _ c.retally.ensures (λ f t below call. search rules)
