use Rattle.std.proofs.Common.{◌≡◌, ◌++◌, drop}
use Rattle.sql_ast.specs.Declarations.{columns_of, names_of}
use Rattle.qgm_app.proofs.statement.column_names.Given as goal

abbrev pub invariant-loop-element : goal.invariant-loop-element
invariant-loop-element l = l.names ++ names_of (columns_of (drop l.element-index l.elements)) ≡ names_of (columns_of l.elements)
