use Rattle.std.proofs.Common.{◌≡◌, ◌++◌, drop}
use Rattle.qgm_core.specs.Edits.{ids_over}
use Rattle.rule_merge.proofs.drop_copy.action.add_over.Given as goal

-- what is left adds the rest
abbrev pub invariant-loop-r : goal.invariant-loop-r
invariant-loop-r l = l.out.items ++ ids_over l.b (drop l.r-index l.ranges) ≡ l.initial.out.items ++ ids_over l.b l.ranges
