use Rattle.std.proofs.Common.{◌≡◌, ◌++◌, drop}
use Rattle.qgm_core.specs.Edits.{ids_over}
use Rattle.rule_prune.proofs.drop_column.named.mark_over.Given as goal

-- what is left adds the rest
abbrev pub invariant-loop-r : goal.invariant-loop-r
invariant-loop-r l = l.marks ++ ids_over l.b (drop l.r-index l.ranges) ≡ l.initial.marks ++ ids_over l.b l.ranges
