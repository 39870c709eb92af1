use Rattle.std.proofs.Common.{◌≡◌, ◌++◌, drop}
use Rattle.rule_prune.specs.NamedColumns.{named_in}
use Rattle.rule_prune.proofs.drop_column.named.named_in.Given as goal

-- what is left adds the rest
abbrev pub invariant-loop-node : goal.invariant-loop-node
invariant-loop-node l = l.named ++ named_in l.quants (drop l.node-index l.nodes) ≡ named_in l.quants l.nodes
