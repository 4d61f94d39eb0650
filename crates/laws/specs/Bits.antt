-- The bits of a word.
use Rattle.std.specs.Prelude.{Bool, ℕ, ◌/◌, ◌%◌, ◌^◌, eqb}

-- bit k of the word is set; bit 0 is the lowest
unfoldable pub is_set : (word k : ℕ) → Bool
is_set word k = eqb (word / 2 ^ k % 2) 1
