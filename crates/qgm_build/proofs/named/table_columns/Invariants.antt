use Rattle.std.proofs.Common.{◌≡◌, ◌+◌, drop, length}
use Rattle.sql_ast.specs.Declarations.{columns_of}
use Rattle.qgm_build.proofs.named.table_columns.Given as goal

abbrev pub invariant-loop-element : goal.invariant-loop-element
invariant-loop-element l =
    l.n + length (columns_of (drop l.element-index l.elements)) ≡ length (columns_of l.elements)
