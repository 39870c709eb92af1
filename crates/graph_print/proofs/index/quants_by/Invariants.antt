use Rattle.std.proofs.Common.{◌≡◌, map, take}
use Rattle.std.specs.List.{flat_map}
use Rattle.qgm_core.specs.Boxes.{is_box, quants_in}
use Rattle.list_laws.specs.Lists.{first}
use Rattle.graph_print.proofs.index.quants_by.Given as goal

abbrev pub invariant-loop-b : goal.invariant-loop-b
invariant-loop-b l = l.places ≡ flat_map (λ b. map (λ r. r.id) (quants_in (first (is_box b) l.nodes))) (take l.b-index l.order)
