use Rattle.std.proofs.Common.{◌≡◌, ◌||◌, ◌++◌, drop, map, filter, List, ℕ}
use Rattle.std.specs.List.{list_any}
use Rattle.sql_ast.specs.Names.{contains}
use Rattle.sql_catalog.specs.declared.reader.Reader.{Reader}
use Rattle.sql_catalog.specs.Nesting.{reader_names, nests_over}
use Rattle.sql_catalog.proofs.nesting.names_over.Given as goal

abbrev pub invariant-loop-round : goal.invariant-loop-round
invariant-loop-round l = l.over ≡ reader_names (filter (nests_over l.views l._round) l.views)
