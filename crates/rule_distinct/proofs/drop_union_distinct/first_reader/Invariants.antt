use Rattle.std.proofs.Common.{◌≡◌, drop}
use Rattle.list_laws.specs.Lists.{first}
use Rattle.rule_distinct.specs.DropUnionDistinct.{ranges_over}
use Rattle.rule_distinct.proofs.drop_union_distinct.first_reader.Given as goal

-- what is left decides
abbrev pub invariant-loop-node : goal.invariant-loop-node
invariant-loop-node l = first (ranges_over l.b) l.nodes ≡ first (ranges_over l.b) (drop l.node-index l.nodes)
