-- `put_exit`: five words in a row.
use Rattle.std.proofs.Common.{◌≡◌, ◌∙◌, sym, ap, ℕ, ◌+◌, ◌-◌, ◌*◌, ◌≤◌, List, ◌++◌, length, take, append_assoc, arith}
use borrow.Rule.Slice.PartMut.{put_mid}
use Rattle.std.proofs.lemmas.List.{drop-drop}
use Rattle.std.proofs.lemmas.List.Edits.{sets, sets-eq}
use Rattle.output.proofs.put_exit.Goals as goal

written : (a k : ℕ) (xs ys : List ℕ) → length ys ≡ k → a + k ≤ length xs → put_mid a k xs ys ≡ sets xs a ys
written a k xs ys e p =
    ap (λ t. take a xs ++ (ys ++ t)) (drop-drop k a xs) ∙ rw (← e) (sym (sets-eq ys xs a (omega arith) ∙ append_assoc (take a xs) ys _))

pub returns-in-Some : goal.returns-in-Some
returns-in-Some c =
    let at = c.args.at in
    let copied = c.copy_from_slice in
    let long : length copied.new.self ≡ at + 5 - at = rw copied.ensures.after (omega arith) in
    written at (at + 5 - at) c.args.delivery.now copied.new.self long (omega (arith, c.requires)) ∙ rw (copied.ensures.after, c.in-Some.is)
