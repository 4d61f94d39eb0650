-- `put_reset`: the three runs of stores leave the reset state's words.
use native.Mathlib.Omega.{arith}
use Rattle.plan.proofs.Accepted.{done_trailed}
use Rattle.reset.proofs.Fresh.{size_is, file_sets}
use Rattle.reset.proofs.put_reset.Goals as goal

pub put_flows-requires : goal.put_flows-requires
put_flows-requires c = omega (arith, c.put_header.auto.w, size_is c.args.plan.now)

pub flow_place-requires : goal.flow_place-requires
flow_place-requires c = rw (← c.trailer-t.ensures.value) at (done_trailed _ 0 c.trailer-t.ensures.accepted).frame.count_most

pub clear-requires : goal.clear-requires
clear-requires c =
    let size = rw (← c.torus-torus.ensures.value.0, ← c.torus-torus.ensures.value.1, ← c.trailer-t.ensures.value) at (size_is c.args.plan.now) in
    rw c.flow_place.ensures (omega (arith, size, c.put_flows.auto.w, c.put_header.auto.w))

pub returns : goal.returns
returns c =
    rw (
      c.clear.ensures,
      c.flow_place.ensures,
      c.put_flows.ensures,
      c.put_header.ensures,
      c.torus-torus.ensures.value.0,
      c.torus-torus.ensures.value.1,
      c.trailer-t.ensures.value,
    )
    (file_sets c.args.plan.now c.args.w.now c.requires)
