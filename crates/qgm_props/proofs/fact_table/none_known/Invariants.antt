use Rattle.std.proofs.Common.{◌≡◌, map, take}
use Rattle.qgm_props.specs.Table.{nothing_of}
use Rattle.qgm_props.proofs.fact_table.none_known.Given as goal

abbrev pub invariant-loop-node : goal.invariant-loop-node
invariant-loop-node l = l.table.items ≡ map nothing_of (take l.node-index l.nodes)
