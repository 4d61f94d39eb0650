-- Little-endian numbers in bytes, read and written.
use Rattle.std.specs.Prelude.{List, [], ◌∷◌, ◌++◌, ℕ, ◌+◌, ◌*◌, ◌/◌, ◌%◌, get_or}

-- the weight of a number's third byte; two bytes hold the numbers below it
abbrev pub third_byte : ℕ
third_byte = 65536

unfoldable pub little_endian2 : List ℕ → ℕ → ℕ
little_endian2 s at = get_or s at 0 + 256 * get_or s (at + 1) 0

unfoldable pub little_endian4 : List ℕ → ℕ → ℕ
little_endian4 s at = little_endian2 s at + third_byte * little_endian2 s (at + 2)

unfoldable pub two_bytes : ℕ → List ℕ
two_bytes n = (n % 256) ∷ (n / 256 % 256) ∷ []

unfoldable pub four_bytes : ℕ → List ℕ
four_bytes n = two_bytes (n % third_byte) ++ two_bytes (n / third_byte)
