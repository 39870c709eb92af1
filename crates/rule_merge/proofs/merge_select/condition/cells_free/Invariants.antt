use Rattle.std.proofs.Common.{◌≡◌, ◌+◌, drop}
use Rattle.rule_merge.specs.MergeSelect as spec
use Rattle.rule_merge.proofs.merge_select.condition.cells_free.Given as goal

-- what is left decides
abbrev pub invariant-loop-k : goal.invariant-loop-k
invariant-loop-k l = spec.cells_free l.b l.q l.nodes (l.k + 1) (drop l.k l.head) ≡ spec.cells_free l.b l.q l.nodes 1 l.head
