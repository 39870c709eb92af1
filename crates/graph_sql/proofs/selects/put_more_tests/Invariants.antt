use Rattle.std.proofs.Common.{◌≡◌, ◌++◌, take}
use Rattle.graph_sql.specs.Lists.{more_tests}
use Rattle.qgm_terms.specs.Shown.{conds}
use Rattle.graph_sql.proofs.selects.put_more_tests.Given as goal

abbrev pub invariant-loop-c : goal.invariant-loop-c
invariant-loop-c l = l.out ≡ l.initial.out ++ more_tests l.scope (conds (take l.c-index l.list))
