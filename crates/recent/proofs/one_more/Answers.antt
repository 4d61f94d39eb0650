-- `one_more`: the entries that stay, then the new one, zeros behind.
use Prim.Native.Nat.{◌-◌}
use native.Mathlib.Omega.{arith}
use lib.ListN.{take, drop, length-drop}
use lib.Seq.{length-take-le}
use Rattle.recent.proofs.Kept.{laid_more, last_kept, last_length}
use Rattle.recent.proofs.one_more.Goals as goal

pub returns : goal.returns
returns c =
    let a = c.args in
    let from = c.gone-from.result in
    let n = a.held - from in
    let goes = c.gone-from.ensures in
    record {
      value =
          rw (c.copy_from_slice.ensures.after, ← (last_kept a.last a.held a.old a.x from n goes (omega arith) (omega arith)))
          (laid_more (take n (drop from a.old)) a.x n (length-take-le n (drop from a.old) (omega (arith, length-drop from a.old))) (omega arith));
      x_len = omega (arith, last_length a.last a.held a.old a.x from n goes (omega arith) (omega arith));
    }
