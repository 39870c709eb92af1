use Rattle.std.proofs.Common.{◌≡◌, ◌++◌, drop, get_or, map, take}
use Rattle.row_bag.proofs.ordered.through.Given as goal

abbrev pub invariant-loop-i : goal.invariant-loop-i
invariant-loop-i l = l.places.items ≡ map (λ p. get_or l.own p 0) (take l.i l.initial.places.items) ++ drop l.i l.initial.places.items
