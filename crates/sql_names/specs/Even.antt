-- Set operations whose operands have the same number of columns, over tables and views of these columns (SQL-92, 7.10).
use Rattle.std.specs.Prelude.{List}
use Rattle.sql_ast.specs.Syntax as s
use Rattle.sql_meaning.specs.Even as even
use Rattle.sql_meaning.specs.Scopes.{Shape}
use Rattle.sql_names.specs.Resolved.{Columns, bare}

module _ (columns : Columns) where
  abbrev pub EvenExpr : List Shape → s.Expr → Type 0
  EvenExpr shapes x = even.EvenExpr (bare columns) shapes x

  abbrev pub EvenExprs : List Shape → s.Exprs → Type 0
  EvenExprs shapes x = even.EvenExprs (bare columns) shapes x

  abbrev pub EvenRes : List Shape → s.Res → Type 0
  EvenRes shapes x = even.EvenRes (bare columns) shapes x

  abbrev pub EvenArms : List Shape → s.Arms → Type 0
  EvenArms shapes x = even.EvenArms (bare columns) shapes x

  abbrev pub EvenChoices : List Shape → s.Choices → Type 0
  EvenChoices shapes x = even.EvenChoices (bare columns) shapes x

  abbrev pub EvenOtherwise : List Shape → s.Otherwise → Type 0
  EvenOtherwise shapes x = even.EvenOtherwise (bare columns) shapes x

  abbrev pub EvenCond : List Shape → s.Cond → Type 0
  EvenCond shapes x = even.EvenCond (bare columns) shapes x

  abbrev pub EvenFilter : List Shape → s.Filter → Type 0
  EvenFilter shapes x = even.EvenFilter (bare columns) shapes x

  abbrev pub EvenItem : List Shape → s.Item → Type 0
  EvenItem shapes x = even.EvenItem (bare columns) shapes x

  abbrev pub EvenItems : List Shape → s.Items → Type 0
  EvenItems shapes x = even.EvenItems (bare columns) shapes x

  abbrev pub EvenList : List Shape → s.SelectList → Type 0
  EvenList shapes x = even.EvenList (bare columns) shapes x

  abbrev pub EvenTables : List Shape → s.TableRefs → Type 0
  EvenTables shapes x = even.EvenTables (bare columns) shapes x

  abbrev pub EvenTable : List Shape → s.TableRef → Type 0
  EvenTable shapes x = even.EvenTable (bare columns) shapes x

  abbrev pub EvenQuery : List Shape → s.Query → Type 0
  EvenQuery shapes x = even.EvenQuery (bare columns) shapes x
