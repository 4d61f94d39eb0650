-- What the flows of an accepted file have: their ranges, and a word of the turning rows. Rests on the laws of plan files.
use mathlib.Core.List.{List}
use mathlib.Core.Path.{◌≡◌}
use Prim.Native.Nat.{ℕ, ◌+◌, ◌-◌, ◌*◌, ◌^◌, ◌≤◌, ◌<◌}
use native.Mathlib.Omega.{arith}
use lib.ListN.{length, get_or}
use Rattle.flow.specs.Plan.{flow_at, most_flows}
use Rattle.flow.specs.Ranges.{FlowOk, PlanOk}
use Rattle.refusal.specs.Answer.{Done}
use Rattle.file.specs.declared.Trailer.{Trailer}
use Rattle.file.specs.Layout.{trailer_of, plan_of, record_size, trailer_size}
use Rattle.plan.specs.Refusals.{plan_answer}
use Rattle.plan.proofs.Accepted.{done_trailed}
use Rattle.plan.proofs.Ranges.{plan_count}
use Rattle.turning.specs.Columns.{TurningIn}
use Rattle.conflict.specs.Inner.{Pair}

module _ (file : List ℕ) where
  -- the record of a flow stands in the file
  pub flow_long : (v : ℕ) → plan_answer file ≡ Done v → (t : Trailer) → t ≡ trailer_of file → (f : ℕ) → f < t.count
      → t.start + record_size * f + record_size ≤ length file
  flow_long v e t is f l =
      let trailed = done_trailed file v e in
      let ends : t.start + record_size * t.count ≡ length file - trailer_size = rw is trailed.frame.ends in
      omega (arith, trailed.long)

  module _ (ok : PlanOk (plan_of file)) where
    pub few : (trailer_of file).count ≤ most_flows
    few = omega (arith, plan_count file, ok.flows_most)

    module _ (f : ℕ) (below : f < (trailer_of file).count) where
      pub flow_fits_lem : FlowOk (plan_of file).sx (plan_of file).sy (flow_at (plan_of file) f)
      flow_fits_lem = ok.flow_ok f (rw (plan_count file) below)

      pub flow_pair : (g : ℕ) → g < (trailer_of file).count
          → let p = plan_of file in Pair p.sx p.sy (flow_at p f) (flow_at p g)
      flow_pair g l =
          record { own = flow_fits_lem; other = ok.flow_ok g (rw (plan_count file) l) }

      -- the columns' words have one for the flow's destination column, with a bit for each row
      module _ (columns : List ℕ) (tell : TurningIn (plan_of file) columns) where
        pub word_there : (flow_at (plan_of file) f).xd < length columns
        word_there = omega (arith, tell.long, flow_fits_lem.xd_on)

        pub word_small : get_or columns (flow_at (plan_of file) f).xd 0 < 2 ^ (plan_of file).sy
        word_small = tell.small _ flow_fits_lem.xd_on
