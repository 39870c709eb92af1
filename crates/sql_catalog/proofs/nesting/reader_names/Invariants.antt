use Rattle.std.proofs.Common.{◌≡◌, ◌||◌, ◌++◌, drop, map, filter, List, ℕ}
use Rattle.std.specs.List.{list_any}
use Rattle.sql_ast.specs.Names.{contains}
use Rattle.sql_catalog.specs.declared.reader.Reader.{Reader}
use Rattle.sql_catalog.specs.Nesting.{reader_names, nests_over}
use Rattle.sql_catalog.proofs.nesting.reader_names.Given as goal

abbrev pub invariant-loop-view : goal.invariant-loop-view
invariant-loop-view l = l.names ++ reader_names (drop l.view-index l.views) ≡ reader_names l.views
