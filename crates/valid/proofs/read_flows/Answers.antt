-- `read_flows`: the flows passed fit, and ΔX of each is noted.
use Rattle.std.proofs.Common.{sym}
use Rattle.laws.proofs.Bounded.{all_more, all_fails}
use Rattle.valid.proofs.ColumnOffsets.{column_offsets_more}
use Rattle.valid.proofs.read_flows.Goals as goal

pub loop-f-preserved : goal.loop-f-preserved
loop-f-preserved c =
    let t = c.loop-f.invariant in (
      all_more _ _ t.0 (sym c.in_ok-dxs.ensures.fits),
      column_offsets_more _ _ _ _ t.1 c.loop-f-test.true c.in_ok-dxs.ensures.value,
    )

pub returns-in_err-dxs-clause-fit : goal.returns-in_err-dxs-clause-fit
returns-in_err-dxs-clause-fit c =
    rw c.from_residual.ensures (sym (all_fails _ _ c.loop-f.f c.loop-f-test.true (sym c.in_err-dxs.ensures.fits)))
