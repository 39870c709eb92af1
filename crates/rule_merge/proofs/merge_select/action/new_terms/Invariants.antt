use Rattle.std.proofs.Common.{◌≡◌, ◌++◌, drop}
use Rattle.rule_merge.specs.MergeSelectSteps as spec
use Rattle.rule_merge.proofs.merge_select.action.new_terms.Given as goal

-- what is left adds the rest
abbrev pub invariant-loop-node : goal.invariant-loop-node
invariant-loop-node l = l.out.items ++ spec.new_terms l.b l.q l.c (drop l.node-index l.nodes) ≡ spec.new_terms l.b l.q l.c l.nodes
