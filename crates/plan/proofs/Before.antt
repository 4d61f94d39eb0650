-- Files written before read with the same period. Rests on Ranges.
use mathlib.Core.List.{List}
use mathlib.Core.Path.{◌≡◌}
use Prim.Native.Nat.{ℕ, ◌+◌}
use native.Mathlib.Omega.{arith}
use borrow.Author.Tests.{ne_eqb}
use lib.ListN.{get_or}
use Rattle.file.specs.Bytes.{little_endian2}
use Rattle.file.specs.Layout.{trailer_of, period_at, flow_from, record_at}
use Rattle.plan.specs.Before.{RecordBefore, EveryFileBefore}
use Rattle.plan.specs.Refusals.{record_number, flow_number, plan_answer}
use Rattle.plan.proofs.Ranges.{plan_flow}
use Rattle.plan.proofs.Refusals.{first_all}

module _ (file : List ℕ) (sx sy at : ℕ) (r : RecordBefore file sx sy at) where
  same_period : (flow_from file at).period ≡ little_endian2 file (at + 4)
  unfolding flow_from period_at
  same_period = omega (arith, r.last_zero)

  accepted : record_number sx sy (flow_from file at) ≡ 0
  unfolding record_number flow_from
  accepted =
      rw (
        r.is_on_torus,
        ne_eqb (flow_from file at).period 0 (λ e. omega (arith, same_period, r.period_some)),
        ne_eqb (get_or file (at + 6) 0) 0 (λ e. omega (arith, r.burst_some)),
      )

pub every_file_before : EveryFileBefore
unfolding plan_answer flow_number
every_file_before file trailer records =
    let t = trailer_of file in (
      rw trailer (first_all (flow_number file t) t.count (λ f l. accepted file t.sx t.sy (record_at t f) (records f l))),
      λ f l. rw (plan_flow file f l) (same_period file t.sx t.sy (record_at t f) (records f l)),
    )
