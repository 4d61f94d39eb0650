-- Tests over the members of a list: how many pass, whether one passes, and which ones. Also lists joined end to end.
use Rattle.std.specs.Prelude.{Bool, true, false, cond, ◌||◌, List, [], ◌∷◌, ◌++◌, ℕ, zero, suc, ◌+◌}

-- 1 for a test that passes, else 0
abbrev pub one : Bool → ℕ
one true = 1
one false = 0

module _ {A : Type 0} where
  -- how many members of the list pass the test
  abbrev pub count : (A → Bool) → List A → ℕ
  count t [] = 0
  count t (x ∷ l) = one (t x) + count t l

  -- some member of the list passes the test
  abbrev pub any : (A → Bool) → List A → Bool
  any t [] = false
  any t (x ∷ l) = t x || any t l

  -- the members of the list that pass the test, in its order
  abbrev pub keep : (A → Bool) → List A → List A
  keep t [] = []
  keep t (x ∷ l) = cond (t x) (x ∷ keep t l) (keep t l)

  -- the lists f 0, f 1, .. f (n − 1), one after the other
  abbrev pub join_below : ℕ → (ℕ → List A) → List A
  join_below zero f = []
  join_below (suc n) f = join_below n f ++ f n
