-- `is_vacant`: register by register. Rests on Words.
use Rattle.std.proofs.Common.{◌∙◌, ℕ, ◌+◌, ◌*◌, ◌<◌, eqb, get_or, sym, rules}
use borrow.Author.Tests.{eqb-true}
use Rattle.laws.proofs.All.{all_from_range}
use Rattle.laws.proofs.Bounded.{all_at}
use Rattle.state.specs.Layout.{register_size}
use Rattle.leap.proofs.Words.{zeros_vacant}
use Rattle.leap.proofs.is_vacant.Goals as goal

pub returns : goal.returns
returns c = λ yes'.
    let registers = 2 * (c.sx.result * c.sy.result) in
    let test = λ (i : ℕ). eqb (get_or c.words-words.result.now (c.flow_place-at.result + register_size * i) 0) 0 in
    let all = all_from_range registers test _ _ _ c.all.ensures.ran (search rules) (λ x b q k. search rules) in
    zeros_vacant c.args.state.now
    (λ j l.
    let below : j < registers = rw (c.sx.ensures.value, c.sy.ensures.value) l in
    rw (c.flow_place-at.ensures, c.flows.ensures.value, c.words-words.ensures.value) at (eqb-true _ _ (all_at test registers (sym all ∙ yes') j below)))
