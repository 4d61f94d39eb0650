-- A part of a slice that is written anew is a run of stores.
use mathlib.Core.List.{List}
use mathlib.Core.Path.{◌≡◌, refl, sym, ◌∙◌}
use Prim.Native.Nat.{ℕ, ◌+◌, ◌-◌, ◌≤◌}
use native.Mathlib.Omega.{arith}
use lib.ListN.{length}
use lib.Seq.{sets, take_all}
use borrow.Rule.Slice.PartMut.{put_mid}
use Rattle.std.proofs.lemmas.List.Edits.{sets-eq}
use Rattle.std.proofs.lemmas.Slice.{put_mid-paste}

pub part_written : (to part : List ℕ) (at n : ℕ) → length part ≡ n → at + n ≤ length to → put_mid at (at + n - at) to part ≡ sets to at part
part_written to part at n long room =
    put_mid-paste at (at + n - at) to part part n refl (omega arith) (sym long)
    ∙ rw (take_all n part (omega arith), sets-eq part to at (omega arith), long)
