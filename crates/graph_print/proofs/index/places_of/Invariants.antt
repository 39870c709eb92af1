use Rattle.std.proofs.Common.{◌≡◌, take}
use Rattle.graph_print.proofs.index.places_of.Given as goal

abbrev pub invariant-loop-x : goal.invariant-loop-x
invariant-loop-x l = l.places ≡ take l.x-index l.numbers
