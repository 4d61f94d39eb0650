-- Laws of a step that tells reasons: what it is by the step's own outcome, and reason 0 stands exactly at the flows that enter. Rests
-- on the laws of reasons.
use mathlib.Core.List.{List}
use mathlib.Core.Path.{◌≡◌, ap}
use Prim.Native.Nat.{ℕ, ◌≤◌, ◌<◌}
use borrow.Author.Tests.{lt-ltb, le-ltb}
use lib.ListN.{length}
use Rattle.laws.proofs.Bounded.{get_d_tabulate}
use Rattle.refusal.specs.Answer.{Done}
use Rattle.router.specs.Reasons.{list_number}
use Rattle.router.proofs.Reasons.{entered_word}
use Rattle.state.specs.declared.Tally.{Tally}
use Rattle.state.specs.State.{fresh_tally}
use Rattle.state.specs.Read.{count_in, state_of}
use Rattle.state.specs.Outcome.{outcome, Lent, lent, refused, unless, unless_refused, over}
use Rattle.state.proofs.View.{counted}
use Rattle.cycle.specs.Seen.{view, enters}
use Rattle.cycle.specs.Step.{next_tally, step_state, step_on}
use Rattle.cycle.specs.Reasons.{telling, words_on, step_reasons_on, EveryEntry}

pub every_entry : EveryEntry
unfolding step_state next_tally enters
every_entry s f l =
    rw (entered_word s.plan (view s) f l)
    (ap (λ (t : Tally). t.entered) (get_d_tabulate (length s.plan.flows) (next_tally s) f (fresh_tally 0) l))

module _ (words delivery reasons : List ℕ) where
  -- a refused step is refused with the same number
  pub refused_step : (n : ℕ) → step_on words delivery ≡ refused n (lent words delivery)
      → refused n (telling (lent words delivery) reasons) ≡ step_reasons_on words delivery reasons
  unfolding step_reasons_on unless_refused
  refused_step n e = rw e

  -- one that isn't goes by the length of the list
  module _ (v : ℕ) (after : Lent) (e : step_on words delivery ≡ outcome (Done v) after) where
    pub short_list : length reasons < count_in words → refused 19 (telling (lent words delivery) reasons) ≡ step_reasons_on words delivery reasons
    unfolding step_reasons_on unless_refused unless list_number
    short_list few = rw (e, counted words, lt-ltb (length reasons) (count_in words) few)

    pub told : count_in words ≤ length reasons
        → outcome (Done v) (telling after (over (words_on (state_of words)) reasons)) ≡ step_reasons_on words delivery reasons
    unfolding step_reasons_on unless_refused unless list_number
    told enough = rw (e, counted words, le-ltb (length reasons) (count_in words) enough)
