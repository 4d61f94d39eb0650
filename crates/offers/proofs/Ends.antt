-- How a set of a state ends: accepted with all entries added, or refused at the first entry that would be.
-- Rests on Added and the laws of first refusals.
use mathlib.Core.List.{List}
use mathlib.Core.Path.{◌≡◌}
use Prim.Native.Nat.{ℕ}
use native.Mathlib.Omega.{arith}
use lib.ListN.{length}
use Rattle.refusal.specs.Answer.{Done, Refused}
use Rattle.plan.proofs.Refusals.{first_all, first_at}
use Rattle.state.specs.Read.{state_of}
use Rattle.state.specs.Outcome.{outcome, unless, unless_refused}
use Rattle.cycle.specs.Set.{entry_number, offer_set_on}
use Rattle.offers.specs.Inner.{Added, Stopped}

pub set_accepted : (before flows memory : List ℕ) → Added before flows (length flows) memory → outcome (Done 0) memory ≡ offer_set_on before flows
unfolding offer_set_on unless unless_refused
set_accepted before flows memory a =
    rw (a.formed, first_all (entry_number (state_of before) flows) (length flows) a.passed, a.words)

pub set_stops : (before flows : List ℕ) (number n : ℕ) (memory : List ℕ) → Stopped before flows number n memory
    → outcome (Refused number n) before ≡ offer_set_on before flows
unfolding offer_set_on unless unless_refused
set_stops before flows number n memory s =
    let numbers = entry_number (state_of before) flows in
    let first = first_at numbers (length flows) n s.inside (first_all numbers n s.added.passed) (λ none. let h = s.some in omega (arith, s.here)) in
    rw (s.added.formed, ← first, s.here)
