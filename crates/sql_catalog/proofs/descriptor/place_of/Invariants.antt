use Rattle.std.proofs.Common.{◌≡◌, ◌||◌, ◌+◌, ◌++◌, drop, map, filter, List, ℕ}
use Rattle.sql_catalog.specs.Descriptor as spec
use Rattle.sql_ast.specs.Declarations.{columns_of}
use Rattle.sql_catalog.proofs.descriptor.place_of.Given as goal

abbrev pub invariant-loop-i : goal.invariant-loop-i
invariant-loop-i l = l.i + spec.place_of (drop l.i l.names) l.name ≡ spec.place_of l.names l.name
