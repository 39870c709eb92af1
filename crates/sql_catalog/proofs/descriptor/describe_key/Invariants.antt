use Rattle.std.proofs.Common.{◌≡◌, ◌||◌, ◌+◌, ◌++◌, drop, map, filter, List, ℕ}
use Rattle.sql_catalog.specs.Descriptor as spec
use Rattle.sql_ast.specs.Declarations.{columns_of}
use Rattle.sql_catalog.proofs.descriptor.describe_key.Given as goal

abbrev pub invariant-loop-column : goal.invariant-loop-column
invariant-loop-column l = l.places ++ map (spec.place_of l.names) (drop l.column-index l.key.columns) ≡ map (spec.place_of l.names) l.key.columns
