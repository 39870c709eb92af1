use Rattle.std.proofs.Common.{◌≡◌, drop}
use Rattle.rule_merge.specs.MergeSelect.{any_under}
use Rattle.rule_merge.proofs.merge_select.condition.any_under.Given as goal

-- what is left decides
abbrev pub invariant-loop-r : goal.invariant-loop-r
invariant-loop-r l = any_under (drop l.r-index l.ranges) l.nodes ≡ any_under l.ranges l.nodes
