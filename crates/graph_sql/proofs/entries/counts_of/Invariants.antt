use Rattle.std.proofs.Common.{◌≡◌, take}
use Rattle.qgm_core.specs.Walk.{under}
use Rattle.graph_sql.proofs.entries.counts_of.Given as goal

abbrev pub invariant-loop-b : goal.invariant-loop-b
invariant-loop-b l = l.counts ≡ under l.nodes (take l.b-index l.order)
