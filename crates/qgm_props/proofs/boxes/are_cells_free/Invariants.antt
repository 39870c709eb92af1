use Rattle.std.proofs.Common.{◌≡◌, drop, false}
use Rattle.std.specs.List.{list_all}
use Rattle.qgm_terms.specs.Shown.{terms}
use Rattle.qgm_props.specs.Inferred.{is_free}
use Rattle.qgm_props.specs.Table.{facts_of}
use Rattle.qgm_props.proofs.boxes.are_cells_free.Given as goal

-- what is left decides
abbrev pub invariant-loop-x : goal.invariant-loop-x
invariant-loop-x l = list_all (is_free l.nodes (facts_of l.table) false) (terms (drop l.x-index l.list)) ≡ list_all (is_free l.nodes (facts_of l.table) false) (terms l.list)
