-- Laws of feeding: one group more. Rests on specs/Inner.
use mathlib.Core.List.{List, [], ◌∷◌, ◌++◌, map, map-append}
use mathlib.Core.Path.{◌≡◌, refl}
use Prim.Native.Nat.{ℕ, ◌+◌, ◌<◌}
use native.Mathlib.Numerals.{add-one}
use lib.ListN.{length, get_or, set, take}
use lib.Seq.{take-suc}
use Rattle.std.proofs.lemmas.List.{get_or_default}
use Rattle.router.specs.Delivery.{Delivery}
use Rattle.recent.specs.declared.Recent.{Recent}
use Rattle.recent.specs.Recent.{no_record}
use Rattle.delivery.specs.Inner.{group_in}
use Rattle.feed.specs.Feed.{fed_one, fed_all}
use Rattle.feed.specs.Inner.{kept_with}

-- one delivery after others
pub fed_snoc : (last : ℕ) (ds : List Delivery) (d : Delivery) (records : List Recent)
    → fed_all last (ds ++ (d ∷ [])) records ≡ fed_one last d (fed_all last ds records)
fed_snoc last [] d records = refl
fed_snoc last (e ∷ ds) d records = fed_snoc last ds d (fed_one last e records)

-- one group more, at its flow's record, which is read at any default
pub fed_next : (groups : List (List ℕ)) (last i : ℕ) (records fed : List Recent) (d : Delivery) (r none : Recent)
    → i < length groups → d ≡ group_in (get_or groups i []) → fed ≡ fed_all last (map group_in (take i groups)) records
    → (group_in (get_or groups i [])).flow < length fed → r ≡ kept_with last d (get_or fed d.flow none)
    → set fed d.flow r ≡ fed_all last (map group_in (take (i + 1) groups)) records
unfolding fed_one kept_with
fed_next groups last i records fed d r none more group e inside is =
    let below : d.flow < length fed = rw group inside in
    let same = get_or_default fed d.flow none no_record below in
    rw (is, same, add-one, take-suc groups i [] more, map-append, fed_snoc, group, e)
