-- What `(0..n).all` tells of a test of numbers. Rests on std's lemma on `all` and on the laws of bounded tests.
use mathlib.Core.Bool.{Bool, true, false, ◌&&◌}
use mathlib.Core.Path.{◌≡◌, refl, ◌∙◌}
use Prim.Native.Nat.{ℕ, zero, suc, ◌+◌}
use native.Mathlib.Nat.{add-zero, zero-add}
use native.Mathlib.Numerals.{add-one}
use native.Mathlib.Omega.{arith}
use denote.Param.Members.{Mut}
use Rattle.std.specs.declared.ops.Range.{Range}
use Rattle.std.specs.Fn.{Called}
use Rattle.std.specs.Iterator.{ChecksAll}
use Rattle.std.specs.List.{list_all, range_with_len}
use Rattle.std.proofs.iter.Yields.{nat_range_steps}
use Rattle.std.proofs.lemmas.Iterator.{YieldsList-from_range}
use Rattle.std.proofs.lemmas.Iterator.Search.{all_from_yields_List}
use Rattle.laws.specs.Bounded.{all_below}

-- the first n numbers, then m more
all_further : (p : ℕ → Bool) (n m : ℕ) → all_below n p && list_all p (range_with_len n m) ≡ all_below (n + m) p
unfolding all_below
all_further p n zero = rw add-zero (last (all_below n p))
  where
    last : (a : Bool) → a && true ≡ a
    last true = refl
    last false = refl
all_further p n (suc m) =
    let e : n + suc m ≡ suc n + m = omega arith in
    regroup (all_below n p) (p n) (list_all p (range_with_len (n + 1) m)) ∙ rw (add-one, e) (all_further p (suc n) m)
  where
    regroup : (a b c : Bool) → a && (b && c) ≡ (a && b) && c
    regroup true b c = refl
    regroup false b c = refl

-- the result of `all`, by its clause `ran`
pub all_from_range : {F : Type 0} {g : Mut F (ℕ × Unit {0}) Bool} {s : Range ℕ} (n : ℕ) (p : ℕ → Bool) (u : Range ℕ) (f : F) (r : Bool)
    → ChecksAll nat_range_steps g s f r u → s ≡ record { start = 0; end = n }
    → ((x : ℕ) (b : Bool) (q : F) → Called g f (x, tt) b q → (q ≡ f) × (b ≡ p x)) → r ≡ all_below n p
unfolding all_below
all_from_range n p u f r ran from each =
    all_from_yields_List p u f r ran (YieldsList-from_range 0 n n from (omega arith)) each ∙ rw zero-add at (all_further p 0 n)
