-- A list from a place on, entry by entry. Rests on specs/Bounded.
use mathlib.Core.List.{List, ◌++◌, append_assoc}
use mathlib.Core.Path.{◌≡◌, ◌∙◌}
use Prim.Native.Nat.{ℕ, zero, suc, ◌+◌, ◌≤◌}
use native.Mathlib.Nat.{add-zero, add-suc}
use native.Mathlib.Omega.{arith}
use lib.ListN.{length, get_or, drop}
use lib.Seq.{drop-cons}
use Rattle.laws.specs.Bounded.{tabulate}

module _ {A : Type 0} (l : List A) (at : ℕ) (d : A) where
  -- the next n entries, and what follows them
  pub drop_entries : (n : ℕ) → at + n ≤ length l → drop at l ≡ tabulate n (λ k. get_or l (at + k) d) ++ drop (at + n) l
  unfolding tabulate
  drop_entries zero h = rw add-zero
  drop_entries (suc n) h =
      drop_entries n (omega arith)
      ∙ rw (drop-cons l (at + n) d (omega arith), append_assoc, add-suc)
