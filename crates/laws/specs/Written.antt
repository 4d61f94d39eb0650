-- Text written into lent memory: what a call that writes answers and leaves.
use Rattle.std.specs.Prelude.{List, ◌≡◌, ℕ, ◌+◌, length}
use Rattle.std.proofs.lemmas.List.Edits.{sets}

-- `after` is `before` with the text from place `at` on, and the next place is `next`; all other entries stay
pub record Wrote (before : List ℕ) (at : ℕ) (text : List ℕ) (next : ℕ) (after : List ℕ) : Type 0 where
  pub place : next ≡ at + length text
  pub memory : after ≡ sets before at text
