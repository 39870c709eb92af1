use Rattle.std.proofs.Common.{◌≡◌, map, take}
use Rattle.qgm_terms.specs.Shown.{terms}
use Rattle.box_exec.specs.Groups.{fold_of}
use Rattle.box_exec.proofs.grouping.folds_of.Given as goal

abbrev pub invariant-loop-x : goal.invariant-loop-x
invariant-loop-x l = l.made.items ≡ map fold_of (terms (take l.x-index l.folds))
