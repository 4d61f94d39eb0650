-- What inner functions ask of deliveries and promise of them. No call's promise names these; proofs/ ties them to the definitions of Feed.
use Rattle.std.specs.Prelude.{List, [], ℕ, ◌≤◌, ◌<◌, length, get_or}
use Rattle.flight.specs.Flight.{flight}
use Rattle.router.specs.Delivery.{Delivery}
use Rattle.recent.specs.declared.Recent.{Recent}
use Rattle.recent.specs.Recent.{most_kept, with_delivery}
use Rattle.delivery.specs.Inner.{group_in}

-- a delivery can be kept in a record of the last L
pub record Keepable (d : Delivery) (last : ℕ) : Type 0 where
  pub ordered : d.entry ≤ d.exit
  pub short : flight d.entry d.exit < 4294967296
  pub some : 1 ≤ last
  pub few : last ≤ most_kept

-- each group can be kept, in one of so many records
pub record Feedable (groups : List (List ℕ)) (count last : ℕ) : Type 0 where
  pub keepable : (i : ℕ) → i < length groups → Keepable (group_in (get_or groups i [])) last
  pub flow_below : (i : ℕ) → i < length groups → (group_in (get_or groups i [])).flow < count

-- a record with a delivery
unfoldable pub kept_with : (last : ℕ) → Delivery → Recent → Recent
kept_with last d r = with_delivery last (flight d.entry d.exit) d.D r
