use Rattle.std.proofs.Common.{◌≡◌, ◌+◌, drop}
use Rattle.rule_merge.specs.DropCopy as spec
use Rattle.rule_merge.proofs.drop_copy.condition.are_columns.Given as goal

-- what is left decides
abbrev pub invariant-loop-k : goal.invariant-loop-k
invariant-loop-k l = spec.are_columns l.q (l.k + 1) (drop l.k l.head) ≡ spec.are_columns l.q 1 l.head
