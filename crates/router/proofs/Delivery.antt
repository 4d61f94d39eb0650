-- The words of deliveries: five for each. Rests on specs/Delivery.
use mathlib.Core.List.{List, [], ◌∷◌, ◌++◌}
use mathlib.Core.Path.{◌≡◌, refl}
use Prim.Native.Nat.{◌*◌}
use native.Mathlib.Omega.{arith}
use lib.ListN.{length}
use Rattle.flow.specs.Limits.{exit_size}
use Rattle.router.specs.Delivery.{Delivery, words_of}

pub words_append : (d e : List Delivery) → words_of (d ++ e) ≡ words_of d ++ words_of e
words_append [] e = refl
words_append (d ∷ ds) e = rw (words_append ds e)

pub words_length : (ds : List Delivery) → length (words_of ds) ≡ exit_size * length ds
words_length [] = refl
words_length (d ∷ ds) = omega (arith, words_length ds)
