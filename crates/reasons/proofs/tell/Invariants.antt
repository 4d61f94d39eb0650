-- The walk of `tell`: the entrants of the flows below f, and their words.
use mathlib.Core.List.{List}
use Prim.Native.Nat.{ℕ}
use Rattle.laws.specs.Bounded.{tabulate}
use Rattle.laws.specs.Written.{Wrote}
use Rattle.router.specs.Reasons.{number_of, reason}
use Rattle.state.specs.Read.{state_of}
use Rattle.cycle.specs.Seen.{view}
use Rattle.entry.specs.Entrants.{Entrants}
use Rattle.reasons.proofs.tell.Given as goal

-- flow f's word
abbrev pub word : List ℕ → (f : ℕ) → ℕ
word w f = number_of (reason (state_of w).plan (view (state_of w)) f)

-- the words of the flows below f
abbrev pub Told : (w before : List ℕ) → (f : ℕ) → (after : List ℕ) → Type 0
Told w before f after = Wrote before 0 (tabulate f (word w)) f after

abbrev pub invariant-loop-f : goal.invariant-loop-f
invariant-loop-f l =
    record {
      entrants : Entrants (state_of l.state) l.f l.entrants;
      told : Told l.state l.initial.reasons l.f l.reasons;
    }
