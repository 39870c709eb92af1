use Rattle.std.proofs.Common.{◌≡◌, ◌++◌, drop, map}
use Rattle.sql_ast.specs.Declarations.{columns_of, names_of, types_of}
use Rattle.sql_catalog.specs.Keys.{key, column_keys, keys_of}
use Rattle.sql_catalog.proofs.key.add_column_keys.Given as goal

abbrev pub invariant-loop-constraint : goal.invariant-loop-constraint
invariant-loop-constraint l = l.all ++ column_keys l.column.name (drop l.constraint-index l.column.constraints) ≡ l.fn.all ++ column_keys l.column.name l.column.constraints
