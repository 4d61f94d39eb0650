-- `put_header`: four words, and four zeros behind them.
use mathlib.Core.List.{[], ◌∷◌}
use Rattle.laws.proofs.Stands.{sets_append}
use Rattle.reset.proofs.put_header.Goals as goal

pub returns : goal.returns
returns c =
    let a = c.args in
    rw (c.put_four-2.ensures, c.put_four.ensures)
    (sets_append a.w.now 0 (a.t.sx ∷ a.t.sy ∷ a.t.count ∷ 0 ∷ []) (0 ∷ 0 ∷ 0 ∷ 0 ∷ []))
