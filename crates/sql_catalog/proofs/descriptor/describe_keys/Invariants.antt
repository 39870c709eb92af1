use Rattle.std.proofs.Common.{◌≡◌, ◌||◌, ◌+◌, ◌++◌, drop, map, filter, List, ℕ}
use Rattle.sql_catalog.specs.Descriptor as spec
use Rattle.sql_ast.specs.Declarations.{columns_of}
use Rattle.sql_catalog.proofs.descriptor.describe_keys.Given as goal

abbrev pub invariant-loop-key : goal.invariant-loop-key
invariant-loop-key l = l.all ++ map (spec.describe_key l.names) (drop l.key-index l.keys) ≡ map (spec.describe_key l.names) l.keys
