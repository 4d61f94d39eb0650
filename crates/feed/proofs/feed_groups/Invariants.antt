-- `feed_groups`: after i turns the records have the first i groups.
use Rattle.std.proofs.Common.{◌≡◌, map, take}
use Rattle.delivery.specs.Inner.{group_in}
use Rattle.feed.specs.Feed.{fed_all}
use Rattle.feed.proofs.feed_groups.Given as goal

abbrev pub invariant-loop-group : goal.invariant-loop-group
invariant-loop-group l = l.records ≡ fed_all l.last (map group_in (take l.group-index l.groups)) l.initial.records
