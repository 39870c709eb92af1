use Rattle.std.proofs.Common.{◌≡◌, ◌++◌, take}
use Rattle.graph_sql.specs.Lists.{leading_tests}
use Rattle.qgm_terms.specs.Shown.{conds}
use Rattle.graph_sql.proofs.selects.put_leading_tests.Given as goal

abbrev pub invariant-loop-c : goal.invariant-loop-c
invariant-loop-c l = l.out ≡ l.initial.out ++ leading_tests l.scope (conds (take l.c-index l.list))
