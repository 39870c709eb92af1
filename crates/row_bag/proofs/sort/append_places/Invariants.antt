use Rattle.std.proofs.Common.{◌≡◌, take}
use Rattle.row_bag.specs.Ranks.{places_of}
use Rattle.row_bag.proofs.sort.append_places.Given as goal

abbrev pub invariant-loop-ranked : goal.invariant-loop-ranked
invariant-loop-ranked l = l.order.items ≡ places_of (take l.ranked-index l.ranked)
