use Rattle.std.proofs.Common.{◌≡◌, ◌++◌, drop}
use Rattle.rule_merge.specs.MergeSelectCopies.{names_in}
use Rattle.rule_merge.proofs.merge_select.names.names_in.Given as goal

-- what is left adds the rest
abbrev pub invariant-loop-node : goal.invariant-loop-node
invariant-loop-node l = l.names ++ names_in (drop l.node-index l.nodes) ≡ names_in l.nodes
