use Rattle.std.proofs.Common.{◌≡◌, ◌++◌, drop, map}
use Rattle.sql_ast.specs.Declarations.{columns_of, names_of, types_of}
use Rattle.sql_catalog.specs.Keys.{key, column_keys, keys_of}
use Rattle.sql_catalog.proofs.key.column_types.Given as goal

abbrev pub invariant-loop-element : goal.invariant-loop-element
invariant-loop-element l = l.all ++ types_of (columns_of (drop l.element-index l.elements)) ≡ types_of (columns_of l.elements)
