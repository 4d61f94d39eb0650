-- `store_next`: tallies, clock and registers, one after the other; a run of stores grows by a word in each turn.
use mathlib.Core.Path.{◌≡◌}
use native.Mathlib.Omega.{arith}
use lib.ListN.{length, take, length-set}
use lib.Seq.{length-take-le, take-length}
use Rattle.laws.proofs.Written.{wrote_more}
use Rattle.cycle.proofs.Facts.{cells_most}
use Rattle.routing.specs.Walk.{registers_in}
use Rattle.step.specs.Next.{next_words}
use Rattle.step.proofs.store_next.Goals as goal

pub overflow_mul-routers : goal.overflow_mul-routers
overflow_mul-routers c = omega (arith, cells_most _ c.requires.all_entered.facts)

pub loop-i-preserved : goal.loop-i-preserved
loop-i-preserved c =
    let l = c.loop-i in
    let words = take (registers_in c.args.state.now) c.args.registers.now in (
      rw length-set l.invariant.0,
      (wrote_more words l.i (omega arith) (record { place = rw (length-take-le l.i words (omega arith)); memory = l.invariant.1 })).memory,
    )

pub returns : goal.returns
unfolding next_words
returns c =
    let l = c.loop-i in
    let words = take (registers_in c.args.state.now) c.args.registers.now in
    let all : l.i ≡ length words = omega arith in
    rw (c.flow_place-place.ensures, c.put_clock.ensures, c.tally_flows.ensures, all, take-length words) at l.invariant.1
