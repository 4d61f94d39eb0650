-- A delivery as code has it, and the one that a group of words is. No call's promise names these.
use Rattle.std.specs.Prelude.{List, ℕ}
use Rattle.router.specs.Delivery.{Delivery, delivery_with}
use Rattle.delivery.specs.Groups.{group_at}
use Rattle.delivery.specs.declared.Delivery.{Delivery as Told}

-- what a delivery of the code tells
abbrev pub as_told : Told → Delivery
as_told d = delivery_with d.flow d.serial d.entry d.exit d.deflections

-- the delivery that five words are
abbrev pub group_in : List ℕ → Delivery
group_in group = group_at group 0
