use Rattle.std.proofs.Common.{◌≡◌, ◌+◌, ◌-◌, ◌++◌}
use Rattle.qgm_wellformed.specs.Shapes as spec
use Rattle.qgm_check.proofs.shapes.add_columns_from.Given as goal

-- what is left adds the rest
abbrev pub invariant-loop-k : goal.invariant-loop-k
invariant-loop-k l = l.out.items ++ spec.columns_from l.q (l.k + 1) (l.width - l.k) ≡ l.initial.out.items ++ spec.columns_from l.q 1 l.width
