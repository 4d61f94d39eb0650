-- A call by its number: where it is refused nothing is fed, and otherwise every group is. Rests on specs/Feed.
use mathlib.Core.List.{List, [], ◌∷◌, ◌++◌}
use mathlib.Core.Path.{◌≡◌, refl}
use Prim.Native.Nat.{ℕ, zero, suc, ◌/◌}
use lib.ListN.{length}
use Rattle.laws.specs.Bounded.{tabulate}
use Rattle.laws.specs.Turns.{turns}
use Rattle.flow.specs.Limits.{exit_size}
use Rattle.refusal.specs.Answer.{Answer, Done}
use Rattle.plan.specs.Refusals.{answer_by}
use Rattle.router.specs.Delivery.{Delivery}
use Rattle.state.specs.Read.{plan_in}
use Rattle.state.specs.Forms.{state_number}
use Rattle.state.specs.Outcome.{Outcome, outcome, unless}
use Rattle.recent.specs.declared.Recent.{Recent}
use Rattle.delivery.specs.Groups.{group_at, groups_of}
use Rattle.feed.specs.Feed.{fed_one, fed_all, feed_number, feed_on}
use Rattle.feed.proofs.Fed.{fed_snoc}

-- the records with the first n groups
unfoldable pub fed_first : List ℕ → (last n : ℕ) → List Recent → List Recent
fed_first w last n records = turns n (λ i. fed_one last (group_at w i)) records

-- the first of two refusals' numbers that isn't 0
abbrev pub first_number : ℕ → ℕ → ℕ
first_number zero later = later
first_number (suc n) later = suc n

-- the call's refusal, or 0
abbrev pub call_number : (words deliveries : List ℕ) → (count last : ℕ) → ℕ
call_number words deliveries count last = first_number (state_number words) (feed_number (plan_in words) (groups_of deliveries) count last)

-- how many groups a call with this number feeds: all, or none where it is a refusal
abbrev pub groups_fed : (number : ℕ) → List ℕ → ℕ
groups_fed zero w = length w / exit_size
groups_fed (suc n) w = 0

-- group by group
pub fed_groups : (w : List ℕ) (last n : ℕ) (records : List Recent) → fed_first w last n records ≡ fed_all last (tabulate n (group_at w)) records
unfolding fed_first turns tabulate
fed_groups w last zero records = refl
fed_groups w last (suc n) records =
    rw (fed_snoc last (tabulate n (group_at w)) (group_at w n) records, ← (fed_groups w last n records))

module _ (words deliveries : List ℕ) (last : ℕ) where
  by_number : (records : List Recent) → let number = call_number words deliveries (length records) last in
      outcome (answer_by number 0) (fed_first deliveries last (groups_fed number deliveries) records) ≡ feed_on words deliveries last records
  unfolding feed_on unless groups_of fed_first turns
  by_number records = by (state_number words) (feed_number (plan_in words) (groups_of deliveries) (length records) last)
    where
      by : (n m : ℕ) → outcome (answer_by (first_number n m) 0) (fed_first deliveries last (groups_fed (first_number n m) deliveries) records)
          ≡ unless n records (unless m records (outcome (Done 0) (fed_all last (groups_of deliveries) records)))
      by zero zero = rw (fed_groups deliveries last (length deliveries / exit_size) records)
      by zero (suc m) = refl
      by (suc n) m = refl

  pub fed_by_number : (records fed : List Recent) (number n : ℕ) (a : Answer) → number ≡ call_number words deliveries (length records) last
      → n ≡ groups_fed number deliveries → fed ≡ fed_first deliveries last n records → a ≡ answer_by number 0
      → outcome a fed ≡ feed_on words deliveries last records
  fed_by_number records fed number n a is groups all answer = rw (answer, all, groups, is) (by_number records)
