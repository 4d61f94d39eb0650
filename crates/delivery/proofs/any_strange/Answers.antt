-- `any_strange`: the test of each group.
use mathlib.Core.Path.{ap, ◌∙◌}
use Rattle.std.proofs.Common.{rules, tests}
use Rattle.std.proofs.lemmas.Iterator.{YieldsList-from_slice}
use Rattle.std.proofs.lemmas.Iterator.Search.{any_from_yields_List}
use Rattle.laws.specs.Count.{any}
use Rattle.state.specs.Read.{plan_in}
use Rattle.delivery.specs.Groups as Groups
use Rattle.delivery.specs.Inner.{group_in}
use Rattle.delivery.proofs.Groups.{any_groups}
use Rattle.delivery.proofs.any_strange.Goals as goal

pub returns : goal.returns
returns c =
    let cuts = c.whole_groups.result.now in
    let p = plan_in c.args.state.now in
    any_from_yields_List (λ g. Groups.strange p (group_in g)) _ _ _ c.any.ensures.ran (YieldsList-from_slice cuts (cc))
    (λ x b q k. search (rules, tests))
    ∙ (any_groups (Groups.strange p) cuts ∙ ap (any (Groups.strange p)) c.whole_groups.ensures)
