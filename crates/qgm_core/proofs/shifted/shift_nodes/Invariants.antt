use Rattle.std.proofs.Common.{◌≡◌, ◌++◌, length, map, take, drop}
use Rattle.qgm_core.specs.Edits.{shift_node}
use Rattle.qgm_core.proofs.shifted.shift_nodes.Given as goal

abbrev pub invariant-loop-i : goal.invariant-loop-i
invariant-loop-i l = record {
  so_far : l.nodes.items ≡ map (shift_node l.k l.q) (take l.i l.initial.nodes.items) ++ drop l.i l.initial.nodes.items;
  same : length l.nodes.items ≡ length l.initial.nodes.items;
}
