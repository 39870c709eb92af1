-- What a part of a query sees, as the program holds it.
use Rattle.std.specs.Prelude.{List, [], ◌∷◌, ◌++◌}
use Rattle.sql_ast.specs.declared.tree.Block.{Block}
use Rattle.sql_ast.specs.declared.tree.Cond.{Cond}
use Rattle.sql_ast.specs.Shown as shown
use Rattle.sql_ast.specs.Syntax as s
use Rattle.sql_meaning.specs.Scopes.{Shape, columns_in}
use Rattle.sql_meaning.specs.ResolvedTrees.{Test}
use Rattle.sql_names.specs.Resolved.{Columns, test}
pub use Rattle.sql_names.specs.Ranges.{shape}
pub use Rattle.sql_names.specs.Spans.{span}
use Rattle.sql_names.specs.declared.range.Range.{Range}
use Rattle.sql_names.specs.declared.scope.Setting.{Setting}
use Rattle.sql_names.specs.declared.scope.Shapes.{Shapes, Outermost, Inside'}

abbrev pub shapes : Shapes → List Shape
shapes Outermost = []
shapes (Inside' scope _ outer) = scope.now ∷ shapes outer

-- the columns of the first of these tables and views that has a name
abbrev pub columns_among : List Range → Columns
columns_among known name = columns_in name (shape known)

abbrev pub columns_of : Setting → Columns
columns_of setting = columns_among setting.known.now

-- the tree of a block
abbrev pub block_of : Block → s.Query
block_of b = s.block b.quantifier (shown.select_list b.list) (shown.table_list b.from) (shown.filter b.filter) b.grouping (shown.filter b.having)

-- the condition of a join of two tables of these ranges, which it sees first
abbrev pub on_of : Setting → Shapes → Shape → Shape → Cond → Test
on_of setting inner left right on = test (columns_of setting) ((left ++ right) ∷ shapes inner) (shown.cond on)
