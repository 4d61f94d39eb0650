-- `read_full`: what a read gives stands behind what came before it.
use borrow.Rule.Slice.PartMut.{put_mid, post_of}
use Rattle.std.proofs.Common.{rules, ℕ, List, ◌≡◌, ◌≤◌, ◌+◌, ◌++◌, ◌∙◌, ap, sym, length, take}
use Rattle.std.proofs.KnownBytes.{Consumes-trans}
use Rattle.std.proofs.Math.Seq.{take-append-add}
use Rattle.std.proofs.lemmas.List.{length-take-le, take-append-le}
use Rattle.input.proofs.read_full.Goals as goal

grown : (d k n : ℕ) (xs ys : List ℕ) → d ≤ length xs → n ≤ length ys → take (d + n) (put_mid d k xs ys) ≡ take d xs ++ take n ys
grown d k n xs ys p q =
    ap (λ m. take (m + n) (put_mid d k xs ys)) (sym (length-take-le d xs p)) ∙ take-append-add (take d xs) (ys ++ post_of d k xs) n
    ∙ ap (λ l. take d xs ++ l) (take-append-le n ys (post_of d k xs) q)

pub loop-done-preserved : goal.loop-done-preserved
loop-done-preserved g c =
    let inv = c.loop-done.invariant in
    (search rules, rw (grown _ _ _ _ _ inv.0 c.in_ok-n.ensures.bound.0) (Consumes-trans _ _ _ _ _ inv.1 c.in_ok-n.ensures.bytes.0))
