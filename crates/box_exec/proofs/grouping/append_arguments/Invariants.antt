use Rattle.std.proofs.Common.{◌≡◌, ◌++◌, drop}
use Rattle.qgm_terms.specs.Shown.{terms}
use Rattle.box_exec.specs.Bound.{env_of}
use Rattle.box_exec.specs.Groups.{arguments_in}
use Rattle.box_exec.proofs.grouping.append_arguments.Given as goal

abbrev pub invariant-loop-x : goal.invariant-loop-x
invariant-loop-x l = l.out.items ++ arguments_in (terms (drop l.x-index l.folds)) (env_of l.inside) ≡ l.initial.out.items ++ arguments_in (terms l.folds) (env_of l.inside)
