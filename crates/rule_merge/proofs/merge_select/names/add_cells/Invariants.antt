use Rattle.std.proofs.Common.{◌≡◌, ◌++◌, drop}
use Rattle.std.specs.List.{flat_map}
use Rattle.qgm_terms.specs.Shown.{terms}
use Rattle.rule_merge.specs.MergeSelectCopies.{names_in_cell}
use Rattle.rule_merge.proofs.merge_select.names.add_cells.Given as goal

-- what is left adds the rest
abbrev pub invariant-loop-x : goal.invariant-loop-x
invariant-loop-x l = l.out ++ flat_map names_in_cell (terms (drop l.x-index l.list)) ≡ l.initial.out ++ flat_map names_in_cell (terms l.list)
