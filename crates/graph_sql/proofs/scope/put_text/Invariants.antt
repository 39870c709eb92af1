use Rattle.std.proofs.Common.{◌≡◌, ◌++◌, take}
use Rattle.graph_sql.proofs.scope.put_text.Given as goal

abbrev pub invariant-loop-c : goal.invariant-loop-c
invariant-loop-c l = l.out ≡ l.initial.out ++ take l.c-index l.c-items
