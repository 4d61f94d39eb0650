-- `largest`: the entries one by one, the larger each time, from 0 on.
use mathlib.Core.Path.{◌∙◌}
use Prim.Native.Nat.{max}
use lib.ListN.{take}
use Rattle.std.proofs.Common.{rules}
use Rattle.std.proofs.lemmas.Iterator.{YieldsList-from_slice}
use Rattle.std.proofs.lemmas.Iterator.Consumers.{fold_from_yields_List}
use Rattle.recent.proofs.Kept.{largest_fold}
use Rattle.recent.proofs.largest.Goals as goal

pub returns : goal.returns
returns c =
    let l = take c.args.n c.args.a in
    fold_from_yields_List _ max 0 _ c.fold.ensures.ran (YieldsList-from_slice l cc) (λ most x larger f k. search rules) ∙ largest_fold l
