use Rattle.std.proofs.Common.{◌≡◌, drop}
use Rattle.list_laws.specs.Lists.{first}
use Rattle.graph_sql.specs.Scoped.{is_item}
use Rattle.graph_sql.proofs.scope.find_item.Given as goal

-- what is left decides
abbrev pub invariant-loop-item : goal.invariant-loop-item
invariant-loop-item l = first (is_item l.q) l.items ≡ first (is_item l.q) (drop l.item-index l.items)
