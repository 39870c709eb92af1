use Rattle.std.proofs.Common.{◌≡◌, take}
use Rattle.graph_sql.proofs.entries.marks_of.Given as goal

abbrev pub invariant-loop-b : goal.invariant-loop-b
invariant-loop-b l = l.marks ≡ take l.b-index l.list
