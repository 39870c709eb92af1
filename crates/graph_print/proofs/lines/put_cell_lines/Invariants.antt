use Rattle.std.proofs.Common.{◌≡◌, ◌++◌, take}
use Rattle.std.specs.List.{flat_map}
use Rattle.graph_print.specs.GraphText as spec
use Rattle.qgm_wellformed.specs.Types.{lookup_by}
use Rattle.qgm_terms.specs.Shown.{terms}
use Rattle.graph_print.proofs.lines.put_cell_lines.Given as goal

abbrev pub invariant-loop-x : goal.invariant-loop-x
invariant-loop-x l = l.out ≡ l.initial.out ++ flat_map (spec.cell_line (lookup_by l.types) l.quants) (terms (take l.x-index l.list))
