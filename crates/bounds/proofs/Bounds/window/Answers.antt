-- `window`: T is B of one packet.
use mathlib.Core.Path.{◌∙◌}
use Rattle.window.proofs.BurstWindows.{burst_one}
use Rattle.bounds.proofs.Bounds.window.Goals as goal

pub returns : goal.returns
returns c = c.burst.ensures ∙ burst_one _ _
