use Rattle.std.proofs.Common.{◌≡◌, ◌++◌, drop}
use Rattle.std.specs.List.{flat_map}
use Rattle.qgm_terms.specs.Shown.{conds}
use Rattle.rule_merge.specs.MergeSelectCopies.{names_in_cond}
use Rattle.rule_merge.proofs.merge_select.names.add_conds.Given as goal

-- what is left adds the rest
abbrev pub invariant-loop-c : goal.invariant-loop-c
invariant-loop-c l = l.out ++ flat_map names_in_cond (conds (drop l.c-index l.list)) ≡ l.initial.out ++ flat_map names_in_cond (conds l.list)
