use Rattle.std.proofs.Common.{◌≡◌, ◌≤◌, drop, length}
use Rattle.graph_sql.specs.StatementText.{entry_by, from_last}
use Rattle.graph_sql.proofs.entries.entries_of.Given as goal

abbrev pub invariant-loop-i : goal.invariant-loop-i
invariant-loop-i l = record {
  within : l.i ≤ length l.nodes;
  found : l.list.items ≡ from_last (entry_by l.nodes l.counts) (drop l.i l.nodes);
}

abbrev pub decreases-loop-i : goal.decreases-loop-i
decreases-loop-i l = l.i
