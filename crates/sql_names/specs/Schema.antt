-- The views of a schema with their names resolved, and the answer to a query over them.
use Rattle.std.specs.Prelude.{◌≡◌, ℕ, zero, suc, false, List, [], map, Option, Some, None, All}
use Rattle.std.specs.List.{list_any}
use Rattle.row_bag.specs.Tables.{bag_named}
use Rattle.row_bag.specs.Verdict.{verdict}
use Rattle.row_bag.specs.declared.tables.Table.{Table}
use Rattle.sql_ast.specs.declared.schema.TableDecl.{TableDecl}
use Rattle.sql_ast.specs.Syntax as s
use Rattle.sql_ast.specs.Declarations.{Declared, table_named, view_named}
use Rattle.sql_ast.specs.Declarations.{names_of}
use Rattle.sql_ast.specs.Declarations.{columns_of as declared_columns}
use Rattle.sql_catalog.specs.Nesting.{nests_over, readers_of}
use Rattle.sql_meaning.specs.Meaning.{Answer, answer_of, order_key, relation_of}
use Rattle.sql_meaning.specs.Names.{all_named, names, renamed}
use Rattle.sql_meaning.specs.Scopes.{first_of}
use Rattle.sql_meaning.specs.ResolvedMeaning as places
use Rattle.sql_meaning.specs.ResolvedTrees.{Query}
use Rattle.sql_meaning.specs.ResolvedViews.{ViewTree}
use Rattle.sql_meaning.specs.ResolvedViews as trees
use Rattle.sql_names.specs.Agreed.{IsWide}
use Rattle.sql_names.specs.Even.{EvenQuery}
use Rattle.sql_names.specs.Resolved.{Columns, bare, query}

-- ---- columns

-- the names of the columns of a declared table
abbrev pub table_columns : Option TableDecl → Option (List (Option (List ℕ)))
table_columns None = None
table_columns (Some table) = Some (all_named (names_of (declared_columns table.elements)))

-- the names of the columns of a view, over tables and views of these columns
abbrev pub view_columns : Columns → Option s.ViewDecl → Option (List (Option (List ℕ)))
view_columns columns None = None
view_columns columns (Some view) = Some (renamed view.columns (names (bare columns) view.query []))

-- the names of the columns of a table or view, where views nest no deeper than this
abbrev pub columns_at : Declared → ℕ → Columns
columns_at catalog zero name = table_columns (table_named catalog.tables name)
columns_at catalog (suc depth) name = first_of (table_columns (table_named catalog.tables name)) (view_columns (columns_at catalog depth) (view_named catalog.views name))

-- the same over a schema, whose views nest at most 16 deep
abbrev pub schema_columns : Declared → Columns
schema_columns catalog = columns_at catalog 16

-- ---- views

abbrev pub view_tree : Declared → s.ViewDecl → ViewTree
view_tree catalog view = record { name = view.name; body = query (schema_columns catalog) [] view.query }

-- the body of a view, resolved; there may be none
abbrev pub view_body : Declared → Option s.ViewDecl → Option Query
view_body catalog None = None
view_body catalog (Some view) = Some (query (schema_columns catalog) [] view.query)

-- the views, each with its body resolved
abbrev pub view_trees : Declared → List ViewTree
view_trees catalog = map (view_tree catalog) catalog.views

-- what these tables are under a schema in which names mean one thing each and views end
pub record Sound (catalog : Declared) (tables : List Table) : Type 0 where
  -- no view has the name of a table
  pub apart : (name : List ℕ) (table : TableDecl) → table_named catalog.tables name ≡ Some table → view_named catalog.views name ≡ None
  -- views nest at most 16 deep
  pub shallow : list_any (nests_over (readers_of catalog.views) 16) (readers_of catalog.views) ≡ false
  -- no rows are there of a table that isn't declared
  pub loaded : (name : List ℕ) → table_named catalog.tables name ≡ None → bag_named tables name ≡ None
  -- each row of a table has a cell for each column
  pub wide : (name : List ℕ) → IsWide (relation_of catalog tables name)
  -- the operands of each set operation in a view have the same number of columns
  pub even : All (λ view. EvenQuery (schema_columns catalog) [] view.query) catalog.views

-- ---- answers

-- the answer to a query's text, by places
abbrev pub answer : Declared → List Table → s.QueryText → Answer
answer catalog tables text =
    answer_of (names (bare (schema_columns catalog)) text.query [])
    (map (order_key (names (bare (schema_columns catalog)) text.query [])) text.order)
    (verdict (places.rows (trees.known_of (view_trees catalog) tables) (query (schema_columns catalog) [] text.query) []))
