-- Laws of kept entries: laid out one by one, the last of them, and the largest. Rests on specs/Recent.
use mathlib.Core.List.{List, [], ◌∷◌, ◌++◌, append_assoc}
use mathlib.Core.Path.{◌≡◌, refl, sym}
use Prim.Native.Nat.{ℕ, suc, ◌+◌, ◌-◌, ◌≤◌, ◌<◌, max}
use native.Mathlib.Omega.{arith}
use lib.ListN.{length, set, take, drop, replicate, length-append, length-drop}
use lib.Seq.{length-take-le, take-add, take_at, drop-append-le, drop_at, set_at}
use Rattle.std.specs.List.{fold, reduce}
use Rattle.std.specs.Option.{unwrap_or}
use Rattle.std.proofs.lemmas.List.{drop-replicate}
use Rattle.recent.specs.Recent.{most_kept, largest, laid_out, one_more}

-- kept entries over zeros, and one more where the first zero stands
pub laid_more : (l : List ℕ) (x n : ℕ) → length l ≡ n → n < most_kept → set (l ++ drop n (replicate most_kept 0)) n x ≡ laid_out (l ++ (x ∷ []))
unfolding laid_out
laid_more l x n e h =
    let left : most_kept - n ≡ suc (most_kept - (length l + 1)) = omega arith in
    rw (length-append l (x ∷ []), drop-replicate {X = ℕ} n most_kept 0, left, append_assoc l (x ∷ []) (replicate (most_kept - (length l + 1)) 0))
    (set_at l 0 (replicate (most_kept - (length l + 1)) 0) x n e)

-- of the entries held, and one more, those from a place on
from_place : (old : List ℕ) (x from n : ℕ) → from + n ≤ length old
    → drop from (take (from + n) old ++ (x ∷ [])) ≡ take n (drop from old) ++ (x ∷ [])
from_place old x from n h =
    rw (
      drop-append-le from (take (from + n) old) (x ∷ []) (omega (arith, length-take-le (from + n) old h)),
      take-add from n old,
      drop_at (take from old) (take n (drop from old)) from (length-take-le from old (omega arith)),
    )

module _ (last held : ℕ) (old : List ℕ) (x from n : ℕ) (goes : from ≡ held + 1 - last) (stay : from + n ≡ held) (long : held ≤ length old) where
  -- the last L of those held and one more: those from the first that stays on, and the new one
  pub last_kept : take n (drop from old) ++ (x ∷ []) ≡ one_more last held old x
  unfolding one_more
  last_kept =
      let many : length (take held old ++ (x ∷ [])) - last ≡ from =
      omega (arith, length-append (take held old) (x ∷ []), length-take-le held old long) in
      rw (many, ← stay) (sym (from_place old x from n (omega arith)))

  -- so many are held then
  pub last_length : length (one_more last held old x) ≡ n + 1
  last_length =
      rw (← last_kept, length-append (take n (drop from old)) (x ∷ []), length-take-le n (drop from old) (omega (arith, length-drop from old)))

largest_from : (b : ℕ) (l : List ℕ) → fold max b l ≡ max b (largest l)
unfolding largest
largest_from b [] = omega arith
largest_from b (x ∷ l) = omega (arith, largest_from (max b x) l)

-- the larger of two each time, from 0 on, is the largest
pub largest_fold : (l : List ℕ) → fold max 0 l ≡ largest l
largest_fold l = omega (arith, largest_from 0 l)

-- so is what the library's `max` finds
pub largest_max : (l : List ℕ) → unwrap_or (reduce max l) 0 ≡ largest l
unfolding largest
largest_max [] = refl
largest_max (x ∷ l) = largest_from x l

-- the kept ones among what is laid out
pub kept_laid : (l : List ℕ) (n : ℕ) → length l ≡ n → take n (laid_out l) ≡ l
unfolding laid_out
kept_laid l n e = take_at l (replicate (most_kept - length l) 0) n e
