-- `row_fits`: the test of each router.
use Rattle.std.proofs.Common.{rules}
use Rattle.state.specs.Read.{sx_in}
use Rattle.state.specs.Forms.{cell_fits}
use Rattle.laws.proofs.All.{all_from_range}
use Rattle.registers.proofs.FlowWords.row_fits.Goals as goal

pub returns : goal.returns
returns c =
    all_from_range (sx_in c.args.self.now) (λ x. cell_fits c.args.self.now x c.args.y) _ _ _ c.all.ensures.ran (search rules) (λ x b q k. search rules)
