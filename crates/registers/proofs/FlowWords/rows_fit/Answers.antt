-- `rows_fit`: the test of each row.
use Rattle.std.proofs.Common.{rules}
use Rattle.laws.specs.Bounded.{all_below}
use Rattle.state.specs.Read.{sx_in, sy_in}
use Rattle.state.specs.Forms.{cell_fits}
use Rattle.laws.proofs.All.{all_from_range}
use Rattle.registers.proofs.FlowWords.rows_fit.Goals as goal

pub returns : goal.returns
returns c =
    all_from_range (sy_in c.args.self.now) (λ y. all_below (sx_in c.args.self.now) (λ x. cell_fits c.args.self.now x y)) _ _ _ c.all.ensures.ran (search rules) (λ x b q k. search rules)
