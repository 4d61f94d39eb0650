-- Laws of written text: nothing, one entry, one text after another. Rests on specs/Written.
use mathlib.Core.List.{List, [], ◌∷◌, ◌++◌}
use mathlib.Core.Path.{◌≡◌, refl, ◌∙◌}
use Prim.Native.Nat.{ℕ, suc, ◌+◌, ◌<◌}
use native.Mathlib.Nat.{add-zero, add_assoc}
use native.Mathlib.Numerals.{add-one}
use native.Mathlib.Omega.{arith}
use lib.ListN.{length, get_or, set, take, length-append}
use lib.Seq.{sets, length-sets, take-suc}
use Rattle.laws.specs.Written.{Wrote}

sets_append : (a b l : List ℕ) (i : ℕ) → sets (sets l i a) (i + length a) b ≡ sets l i (a ++ b)
sets_append [] b l i = rw add-zero
sets_append (x ∷ a) b l i =
    let next : i + suc (length a) ≡ suc i + length a = omega arith in
    rw next (sets_append a b (set l i x) (suc i))

pub wrote_none : (l : List ℕ) (at : ℕ) → Wrote l at [] at l
wrote_none l at = record { place = omega arith; memory = refl }

pub wrote_one : (l : List ℕ) (at x : ℕ) → Wrote l at (x ∷ []) (at + 1) (set l at x)
wrote_one l at x = record { place = refl; memory = refl }

-- one text after another
pub wrote_then : {l k m : List ℕ} {at n r : ℕ} {a b : List ℕ} → Wrote l at a n k → Wrote k n b r m → Wrote l at (a ++ b) r m
wrote_then {l} {at = at} {a = a} {b = b} h g =
    record {
      place = g.place ∙ rw (h.place, length-append a b) (omega arith);
      memory = g.memory ∙ rw (h.memory, h.place) (sets_append a b l at);
    }

-- one entry more of a text
pub wrote_more : {l k : List ℕ} {at : ℕ} (text : List ℕ) (i : ℕ) → i < length text → Wrote l at (take i text) (at + i) k
    → Wrote l at (take (i + 1) text) (at + (i + 1)) (set k (at + i) (get_or text i 0))
wrote_more text i below h =
    rw (add-one, take-suc text i 0 below, ← add-one, ← add_assoc) (wrote_then h (wrote_one _ _ (get_or text i 0)))

pub wrote_length : {l k : List ℕ} {at n : ℕ} {a : List ℕ} → Wrote l at a n k → length k ≡ length l
wrote_length {l} {at = at} {a = a} h = rw h.memory (length-sets l at a)
