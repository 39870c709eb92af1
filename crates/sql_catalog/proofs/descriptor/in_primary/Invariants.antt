use Rattle.std.proofs.Common.{◌≡◌, ◌||◌, ◌+◌, ◌++◌, drop, map, filter, List, ℕ}
use Rattle.sql_catalog.specs.Descriptor as spec
use Rattle.sql_ast.specs.Declarations.{columns_of}
use Rattle.sql_catalog.proofs.descriptor.in_primary.Given as goal

abbrev pub invariant-loop-key : goal.invariant-loop-key
invariant-loop-key l = spec.in_primary (drop l.key-index l.keys) l.name ≡ spec.in_primary l.keys l.name
