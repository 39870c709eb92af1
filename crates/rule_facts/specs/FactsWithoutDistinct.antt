-- No fact hangs on the distinctness of a box.
use Rattle.std.specs.Prelude.{ℕ, ◌↔◌, List}
use Rattle.qgm_core.specs.Boxes.{is_box}
use Rattle.qgm_core.specs.Edits.{with_distinct}
use Rattle.list_laws.specs.Lists.{change}
use Rattle.qgm_core.specs.declared.kinds.Distinct.{Distinct}
use Rattle.qgm_core.specs.declared.node.Node.{Node}
use Rattle.qgm_props.specs.Inferred.{Fact, Inferred}

abbrev pub FactsWithoutDistinct : Type 0
FactsWithoutDistinct = (bs : List Node) (b : ℕ) (d : Distinct) (f : Fact) → Inferred (change (is_box b) (with_distinct d) bs) f ↔ Inferred bs f
