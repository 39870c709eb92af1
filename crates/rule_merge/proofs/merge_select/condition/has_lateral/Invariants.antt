use Rattle.std.proofs.Common.{◌≡◌, drop}
use Rattle.std.specs.List.{list_any}
use Rattle.rule_merge.specs.MergeSelect.{is_lateral}
use Rattle.rule_merge.proofs.merge_select.condition.has_lateral.Given as goal

-- what is left decides
abbrev pub invariant-loop-s : goal.invariant-loop-s
invariant-loop-s l = list_any (is_lateral l.lookups.graph.now l.c) (drop l.s-index l.s-items) ≡ list_any (is_lateral l.lookups.graph.now l.c) l.c.quants
