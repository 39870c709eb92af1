-- Comparison of a value with the rows of a subquery, as its text writes it (SQL-92, 8.4 and 8.7).
use Rattle.std.specs.Prelude.{List}
use Rattle.shared_types.specs.declared.compare.CmpOp.{CmpOp}
use Rattle.row_bag.specs.declared.row.Row.{Row}
use Rattle.sql_ast.specs.declared.word.Quantifier.{Quantifier}
use Rattle.sql_ast.specs.declared.word.Quantifier.TheVariants as quantifier
use Rattle.sql_value.specs.declared.cell.Cell.{Cell}
use Rattle.sql_value.specs.declared.truth.Truth.{Truth}
pub use Rattle.row_bag.specs.Subqueries.{compare_all, compare_any, exists, level_error, only_cell, presence, scalar, scalar_of_those}

-- x op ANY, SOME or ALL
abbrev pub quantified : Quantifier → CmpOp → Cell → List (Row (List Cell)) → Truth
quantified quantifier.Any op x rows = compare_any op x rows
quantified quantifier.Some op x rows = compare_any op x rows
quantified quantifier.All op x rows = compare_all op x rows
