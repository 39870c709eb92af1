use Rattle.std.proofs.Common.{◌≡◌, ◌+◌, ◌-◌}
use Rattle.sql_meaning.specs.ResolvedTrees as tree
use Rattle.sql_names.specs.Onto.{values_onto}
use Rattle.sql_names.specs.Resolved as spec
use Rattle.sql_names.proofs.build.push_columns.Given as goal

abbrev pub invariant-loop-i : goal.invariant-loop-i
invariant-loop-i l = (rest : tree.Values) → values_onto l.list (spec.append (spec.columns_from l.scope (l.first + l.i) (l.count - l.i)) rest) ≡ values_onto l.initial.list (spec.append (spec.columns_from l.scope l.first l.count) rest)
