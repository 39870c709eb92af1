use Rattle.std.proofs.Common.{◌≡◌, ◌++◌, drop, map}
use Rattle.sql_meaning.specs.Meaning.{order_key}
use Rattle.sql_names.proofs.order.order_keys.Given as goal

abbrev pub invariant-loop-sort : goal.invariant-loop-sort
invariant-loop-sort l = l.keys ++ map (order_key l.names) (drop l.sort-index l.sorts) ≡ map (order_key l.names) l.sorts
