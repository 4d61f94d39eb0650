-- `check_records`: no flow passed is refused.
use mathlib.Core.Path.{◌≡◌}
use Rattle.refusal.specs.Answer.{Done}
use Rattle.plan.specs.Refusals.{first_refused, flow_number}
use Rattle.plan.proofs.check_records.Given as goal

abbrev pub invariant-loop-f : goal.invariant-loop-f
invariant-loop-f l = first_refused (flow_number l.file l.t) l.f ≡ Done 0
