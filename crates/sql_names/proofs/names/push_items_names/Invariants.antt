use Rattle.std.proofs.Common.{◌≡◌, ◌++◌, drop}
use Rattle.sql_ast.specs.Shown as written
use Rattle.sql_meaning.specs.Names as spec
use Rattle.sql_names.specs.Shapes.{shapes}
use Rattle.sql_names.proofs.names.push_items_names.Given as goal

abbrev pub invariant-loop-item : goal.invariant-loop-item
invariant-loop-item l = l.out ++ spec.items_names (written.item_list (drop l.item-index l.items)) (shapes l.s) ≡ l.initial.out ++ spec.items_names (written.item_list l.items) (shapes l.s)
