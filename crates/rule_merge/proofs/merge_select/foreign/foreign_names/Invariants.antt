use Rattle.std.proofs.Common.{◌≡◌, ◌++◌, drop}
use Rattle.rule_merge.specs.MergeSelectLookups.{foreigns}
use Rattle.rule_merge.proofs.merge_select.foreign.foreign_names.Given as goal

abbrev pub invariant-loop-node : goal.invariant-loop-node
invariant-loop-node l = l.marks ++ foreigns (drop l.node-index l.nodes) ≡ foreigns l.nodes
