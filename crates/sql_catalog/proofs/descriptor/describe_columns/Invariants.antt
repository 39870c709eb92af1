use Rattle.std.proofs.Common.{◌≡◌, ◌||◌, ◌+◌, ◌++◌, drop, map, filter, List, ℕ}
use Rattle.sql_catalog.specs.Descriptor as spec
use Rattle.sql_ast.specs.Declarations.{columns_of}
use Rattle.sql_catalog.proofs.descriptor.describe_columns.Given as goal

abbrev pub invariant-loop-element : goal.invariant-loop-element
invariant-loop-element l = l.all ++ map (spec.describe_column l.keys) (columns_of (drop l.element-index l.elements)) ≡ map (spec.describe_column l.keys) (columns_of l.elements)
