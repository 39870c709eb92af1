-- What the rows of a subquery come to where it stands in an expression or a condition (SQL-92, 6.11, 7.11, 8.4, 8.7 and 8.8).
use Rattle.std.specs.Prelude.{true, false, List, [], ◌∷◌, Option, Some, None}
use Rattle.shared_types.specs.declared.compare.CmpOp.{CmpOp}
use Rattle.sql_value.specs.Arithmetic.{error_or}
use Rattle.sql_value.specs.Cells.{worst_of}
use Rattle.sql_value.specs.Comparison as c
use Rattle.sql_value.specs.Truths as t
use Rattle.sql_value.specs.declared.cell.Cell.{Cell}
use Rattle.sql_value.specs.declared.cell.Cell.TheVariants.{Null}
use Rattle.sql_value.specs.declared.cell.Kind.{Kind}
use Rattle.sql_value.specs.declared.cell.Kind.TheVariants as kind
use Rattle.sql_value.specs.declared.level.Level.{Level}
use Rattle.sql_value.specs.declared.level.Level.TheVariants.{No, Cardinality, Division, Overflow, Yes}
use Rattle.sql_value.specs.declared.truth.Truth.{Truth}
use Rattle.row_bag.specs.Bags.{total}
use Rattle.row_bag.specs.Errors.{error_at}
use Rattle.row_bag.specs.Verdict.{those_there}
use Rattle.row_bag.specs.declared.row.Row.{Row}

-- the first cell of a row of one column; null where it has none, which isn't so in a valid query
abbrev pub only_cell : List Cell → Cell
only_cell [] = Null
only_cell (cell ∷ cells) = cell

-- the presence of a row at a level: true for yes, false for no, and the error for an error level
abbrev pub presence : Level → Truth
presence Yes = t.truth_of true
presence No = t.truth_of false
presence Cardinality = t.error kind.Cardinality
presence Division = t.error kind.Division
presence Overflow = t.error kind.Overflow

-- EXISTS: the OR over the rows of their presence
abbrev pub exists : List (Row (List Cell)) → Truth
exists rows = total t.or (t.truth_of false) (λ cells level. presence level) rows

-- a condition of some row: the OR over the rows of (presence AND the condition)
abbrev pub some : (List Cell → Truth) → List (Row (List Cell)) → Truth
some test rows = total t.or (t.truth_of false) (λ cells level. t.and (presence level) (test cells)) rows

-- a condition of every row: the AND over the rows of (NOT presence OR the condition)
abbrev pub every : (List Cell → Truth) → List (Row (List Cell)) → Truth
every test rows = total t.and (t.truth_of true) (λ cells level. t.or (t.negated (presence level)) (test cells)) rows

-- x op ANY, and SOME: the comparison holds of some row's cell
abbrev pub compare_any : CmpOp → Cell → List (Row (List Cell)) → Truth
compare_any op x rows = some (λ cells. c.compare op x (only_cell cells)) rows

-- x op ALL: the comparison holds of every row's cell
abbrev pub compare_all : CmpOp → Cell → List (Row (List Cell)) → Truth
compare_all op x rows = every (λ cells. c.compare op x (only_cell cells)) rows

-- the greatest of the rows' error levels
abbrev pub level_error : List (Row (List Cell)) → Option Kind
level_error rows = total worst_of None (λ cells level. error_at level) rows

-- of the rows that are there: of no row null, of one at yes its cell, and else the greatest of their error levels and, where there are two or more, cardinality
abbrev pub scalar_of_those : List (Row (List Cell)) → Cell
scalar_of_those [] = Null
scalar_of_those (r ∷ []) = error_or (error_at r.level) (only_cell r.cells)
scalar_of_those (r ∷ q ∷ rows) = error_or (worst_of (Some kind.Cardinality) (level_error (r ∷ q ∷ rows))) Null

-- a scalar subquery
abbrev pub scalar : List (Row (List Cell)) → Cell
scalar rows = scalar_of_those (those_there rows)
