use Rattle.std.proofs.Common.{◌≡◌, ◌++◌, drop, map}
use Rattle.sql_ast.specs.Declarations.{columns_of}
use Rattle.sql_faults.specs.Views.{typed}
use Rattle.sql_faults.proofs.known.table_columns.Given as goal

abbrev pub invariant-loop-element : goal.invariant-loop-element
invariant-loop-element l = l.columns ++ map typed (columns_of (drop l.element-index l.elements)) ≡ map typed (columns_of l.elements)
