use Rattle.std.proofs.Common.{◌≡◌, drop}
use Rattle.sql_ast.specs.Shown as written
use Rattle.sql_meaning.specs.Grouping as spec
use Rattle.sql_meaning.proofs.grouping.in_items.Given as goal

abbrev pub invariant-loop-item : goal.invariant-loop-item
invariant-loop-item l = spec.in_items (written.item_list (drop l.item-index l.items)) ≡ spec.in_items (written.item_list l.items)
