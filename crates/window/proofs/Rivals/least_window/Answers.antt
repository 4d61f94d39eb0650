-- `least_window`: T is a burst's window for one packet.
use mathlib.Core.Path.{◌∙◌}
use Rattle.window.proofs.Bursts.{least_one}
use Rattle.window.proofs.Rivals.least_window.Goals as goal

pub returns : goal.returns
returns g c = c.least_burst.ensures ∙ least_one _
