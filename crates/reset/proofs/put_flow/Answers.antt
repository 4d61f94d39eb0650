-- `put_flow`: the plan numbers, and the tally behind them.
use Rattle.laws.proofs.Stands.{sets_append}
use Rattle.state.specs.State.{fresh_tally}
use Rattle.state.specs.Words.{number_words, tally_words}
use Rattle.reset.proofs.put_flow.Goals as goal

pub returns : goal.returns
returns c =
    let a = c.args in
    rw (c.put_tally.ensures, c.put_numbers.ensures)
    (sets_append a.w.now a.at (number_words a.f) (tally_words (fresh_tally a.f.burst)))
