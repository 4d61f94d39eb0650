-- `put`: the part of the memory from the place on is the text.
use borrow.Rule.Slice.PartMut.{put_mid}
use mathlib.Core.List.{List, append_assoc}
use mathlib.Core.Path.{◌≡◌, refl, sym, ◌∙◌}
use Prim.Native.Nat.{ℕ, ◌+◌, ◌≤◌}
use native.Mathlib.Omega.{arith}
use lib.ListN.{length, take, drop}
use lib.Seq.{sets}
use Rattle.std.proofs.lemmas.List.Edits.{sets-eq, paste_all}
use Rattle.std.proofs.lemmas.Slice.{put_mid-paste}
use Rattle.table.proofs.put.Goals as goal

copied : (out text part : List ℕ) (at k : ℕ) → part ≡ text → length text ≡ k → at + length text ≤ length out → put_mid at k out part ≡ sets out at text
copied out text part at k same long room =
    put_mid-paste at k out part text (length text) same long refl
    ∙ paste_all out at text (length text) refl
    ∙ sym (sets-eq text out at room ∙ append_assoc (take at out) text (drop (at + length text) out))

pub returns : goal.returns
returns c =
    record {
      place = refl;
      memory = copied _ _ _ _ _ (c.copy_from_slice.ensures.after ∙ c.as_bytes.ensures.value) (omega arith) c.requires;
    }
