-- `clear`: the part is filled with zeros.
use mathlib.Core.Path.{◌≡◌, ap, ◌∙◌}
use Prim.Native.Nat.{ℕ, ◌+◌, ◌*◌, ◌-◌}
use native.Mathlib.Omega.{arith}
use lib.ListN.{length, take, drop, replicate, length-drop}
use lib.Seq.{sets, length-take-le}
use Rattle.state.specs.Layout.{router_size}
use Rattle.reset.proofs.Parts.{part_written}
use Rattle.reset.proofs.clear.Goals as goal

pub returns : goal.returns
returns c =
    let a = c.args in
    let n : ℕ = router_size * a.routers in
    let part : length (take (a.at + n - a.at) (drop a.at a.w.now)) ≡ n =
    length-take-le _ _ (omega (arith, length-drop a.at a.w.now, c.requires)) ∙ omega arith in
    part_written a.w.now c.fill.new.self a.at n (c.fill.ensures.len ∙ part) c.requires
    ∙ ap (sets a.w.now a.at) (c.fill.ensures.after (λ y e. e) ∙ ap (λ m. replicate m 0) part)
