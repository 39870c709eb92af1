use Rattle.std.proofs.Common.{◌≡◌, ◌++◌, drop}
use Rattle.rule_prune.specs.Unnamed.{unnamed}
use Rattle.rule_prune.proofs.drop_column.action.unnamed.Given as goal

-- what is left adds the rest
abbrev pub invariant-loop-r : goal.invariant-loop-r
invariant-loop-r l = l.out.items ++ unnamed l.node (drop l.r-index l.node.quants) ≡ unnamed l.node l.node.quants
