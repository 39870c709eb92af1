use Rattle.std.proofs.Common.{◌≡◌, ◌++◌, take}
use Rattle.std.specs.List.{flat_map}
use Rattle.graph_print.specs.GraphText as spec
use Rattle.graph_print.proofs.lines.put_type_lines.Given as goal

abbrev pub invariant-loop-column : goal.invariant-loop-column
invariant-loop-column l = l.out ≡ l.initial.out ++ flat_map spec.type_line (take l.column-index l.types)
