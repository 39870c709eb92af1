use Rattle.std.proofs.Common.{◌≡◌, take}
use Rattle.qgm_core.proofs.slots.copy_lists.Given as goal

abbrev pub invariant-loop-list : goal.invariant-loop-list
invariant-loop-list l = l.all.items ≡ take l.list-index l.lists
