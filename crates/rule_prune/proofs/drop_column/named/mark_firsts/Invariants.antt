use Rattle.std.proofs.Common.{◌≡◌, ◌++◌, drop}
use Rattle.rule_prune.specs.NamedColumns.{firsts_of}
use Rattle.rule_prune.proofs.drop_column.named.mark_firsts.Given as goal

-- what is left adds the rest
abbrev pub invariant-loop-node : goal.invariant-loop-node
invariant-loop-node l = l.named ++ firsts_of l.quants (drop l.node-index l.nodes) ≡ l.initial.named ++ firsts_of l.quants l.nodes
