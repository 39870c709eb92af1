use Rattle.std.proofs.Common.{◌≡◌, ◌++◌, take}
use Rattle.graph_sql.specs.Lists.{more_group_cells}
use Rattle.qgm_terms.specs.Shown.{terms}
use Rattle.graph_sql.proofs.groups.put_more_group_cells.Given as goal

abbrev pub invariant-loop-x : goal.invariant-loop-x
invariant-loop-x l = l.out ≡ l.initial.out ++ more_group_cells l.scope (terms (take l.x-index l.list))
