use Rattle.std.proofs.Common.{◌≡◌, ◌++◌, drop, map}
use Rattle.sql_ast.specs.Shown as shown
use Rattle.sql_catalog.specs.Nesting.{readers_of}
use Rattle.sql_catalog.proofs.reader.readers.Given as goal

abbrev pub invariant-loop-view : goal.invariant-loop-view
invariant-loop-view l = l.all ++ readers_of (map shown.view (drop l.view-index l.views)) ≡ readers_of (map shown.view l.views)
