use Rattle.std.proofs.Common.{◌≡◌, ◌++◌, take}
use Rattle.std.specs.List.{flat_map}
use Rattle.graph_print.specs.GraphText as spec
use Rattle.graph_print.proofs.text.put_boxes.Given as goal

abbrev pub invariant-loop-b : goal.invariant-loop-b
invariant-loop-b l = l.out ≡ l.initial.out ++ flat_map (spec.box_lines l.graph) (take l.b-index l.order)
