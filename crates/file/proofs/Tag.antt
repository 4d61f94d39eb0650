-- The tag at a file's end, compared as a whole. Rests on specs/Layout.
use mathlib.Core.Bool.{Bool, true, false, ◌&&◌}
use mathlib.Core.List.{List, [], ◌∷◌}
use mathlib.Core.Path.{◌≡◌, refl}
use Prim.Native.Nat.{ℕ, suc, ◌+◌, ◌-◌, ◌≤◌}
use native.Mathlib.Nat.{add-zero}
use native.Mathlib.Omega.{arith}
use lib.Dec.{eqb}
use lib.ListN.{length, get_or, drop}
use lib.Seq.{drop-cons}
use Rattle.std.proofs.lemmas.List.{drop_all}
use Rattle.std.specs.Prelude.{nat_eq}
use Rattle.std.specs.List.{ends_with}
use Rattle.laws.specs.Bounded.{all_below}
use Rattle.laws.proofs.Cases.{eqb_swap}
use Rattle.file.specs.Layout.{tag, tagged}

four_tests : (a b c d : Bool) → a && (b && (c && (d && true))) ≡ true && a && b && c && d
four_tests false b c d = refl
four_tests true false c d = refl
four_tests true true false d = refl
four_tests true true true false = refl
four_tests true true true true = refl

last_four : (file : List ℕ) (n : ℕ) → n + 4 ≡ length file
    → drop n file ≡ get_or file (n + 0) 0 ∷ get_or file (n + 1) 0 ∷ get_or file (n + 2) 0 ∷ get_or file (n + 3) 0 ∷ []
last_four file n e =
    let one : n + 1 ≡ suc n = omega arith in
    let two : n + 2 ≡ suc (suc n) = omega arith in
    let three : n + 3 ≡ suc (suc (suc n)) = omega arith in
    rw (
      add-zero n,
      one,
      two,
      three,
      drop-cons file n 0 (omega arith),
      drop-cons file (suc n) 0 (omega arith),
      drop-cons file (suc (suc n)) 0 (omega arith),
      drop-cons file (suc (suc (suc n))) 0 (omega arith),
      drop_all (suc (suc (suc (suc n)))) file (omega arith),
    )

pub ends_tagged : (file : List ℕ) → 4 ≤ length file → ends_with nat_eq file tag ≡ tagged file
unfolding tagged all_below
ends_tagged file l =
    let byte = λ (k : ℕ). get_or file (length file - 4 + k) 0 in
    rw (
      last_four file (length file - 4) (omega arith),
      eqb_swap 72 (byte 0),
      eqb_swap 82 (byte 1),
      eqb_swap 84 (byte 2),
      eqb_swap 80 (byte 3),
    )
    (four_tests (eqb (byte 0) 72) (eqb (byte 1) 82) (eqb (byte 2) 84) (eqb (byte 3) 80))
