use mathlib.Core.Path.{◌≡◌}
use lib.ListN.{length}
use lib.Seq.{sets}
use Rattle.laws.specs.Count.{join_below}
use Rattle.flow.specs.Plan.{flow_at}
use Rattle.file.specs.Layout.{plan_of}
use Rattle.state.specs.Layout.{header_size}
use Rattle.reset.specs.Fresh.{fresh_words}
use Rattle.reset.proofs.put_flows.Given as goal

abbrev pub invariant-loop-f : goal.invariant-loop-f
invariant-loop-f l =
    (length l.w ≡ length l.initial.w)
    × (l.w ≡ sets l.initial.w header_size (join_below l.f (λ f. fresh_words (flow_at (plan_of l.plan) f))))
