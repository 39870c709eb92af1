use Rattle.std.proofs.Common.{◌≡◌, ◌++◌, drop, map}
use Rattle.sql_ast.specs.Declarations.{columns_of, names_of, types_of}
use Rattle.sql_catalog.specs.Keys.{key, column_keys, keys_of}
use Rattle.sql_catalog.proofs.key.add_key.Given as goal

abbrev pub invariant-loop-name : goal.invariant-loop-name
invariant-loop-name l = l.columns ++ drop l.name-index l.names ≡ l.names
