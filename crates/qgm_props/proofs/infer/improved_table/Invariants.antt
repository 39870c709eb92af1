use Rattle.qgm_props.specs.Table.{Improves, unknown_in}
use Rattle.qgm_props.proofs.infer.improved_table.Given as goal

abbrev pub invariant-loop-table : goal.invariant-loop-table
invariant-loop-table l = Improves l.nodes l.table

abbrev pub decreases-loop-table : goal.decreases-loop-table
decreases-loop-table l = unknown_in l.table
