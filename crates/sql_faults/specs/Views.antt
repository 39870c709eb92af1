-- The checks over a catalog: what tables and views stand for, the fault of a query, and the first view whose body isn't valid.
use Rattle.std.specs.Prelude.{ℕ, zero, suc, true, false, List, [], ◌∷◌, map, Option, Some, None, filter}
use Rattle.sql_ast.specs.declared.schema.ColumnDecl.{ColumnDecl}
use Rattle.sql_ast.specs.declared.schema.TableDecl.{TableDecl}
use Rattle.sql_ast.specs.Syntax as s
use Rattle.sql_ast.specs.Declarations.{Declared, table_named}
use Rattle.sql_ast.specs.Declarations.{columns_of}
use Rattle.sql_ast.specs.Names.{same_name}
use Rattle.sql_catalog.specs.Nesting.{nests_at, reader_of, readers_of}
use Rattle.sql_meaning.specs.Scopes.{first_of}
use Rattle.sql_faults.specs.Columns.{column, columns, renamed, type_of_declared}
use Rattle.sql_faults.specs.Faults.{list_fault, query_fault, text_fault}
use Rattle.sql_faults.specs.Rules.{lesser}
use Rattle.sql_faults.specs.Scopes.{Heads}
use Rattle.sql_faults.specs.declared.column.TypedColumn.{TypedColumn}
use Rattle.sql_faults.specs.declared.view.ViewHead.{ViewHead}

-- ---- tables

abbrev pub typed : ColumnDecl → TypedColumn
typed c = column (Some c.name) (Some (type_of_declared c.data_type))

abbrev pub typed_columns : Option TableDecl → Option (List TypedColumn)
typed_columns None = None
typed_columns (Some table) = Some (map typed (columns_of table.elements))

-- the columns of a table
abbrev pub table_heads : Declared → Heads
table_heads catalog name = typed_columns (table_named catalog.tables name)

-- ---- views

-- the columns of the first of these views that has the name
abbrev pub view_named : List ViewHead → List ℕ → Option (List TypedColumn)
view_named [] name = None
view_named (v ∷ views) name = elim (same_name v.name name) as (λ _. Option (List TypedColumn)) [ true ↦ Some v.columns | false ↦ view_named views name ]

-- what a name stands for, where these are the views
abbrev pub heads_with : Declared → List ViewHead → Heads
heads_with catalog views name = first_of (table_heads catalog name) (view_named views name)

-- the columns of a view: its body's, renamed by its list
abbrev pub view_columns : Heads → s.ViewDecl → List TypedColumn
view_columns heads v = renamed v.columns (columns heads v.query [])

abbrev pub view_head : Heads → s.ViewDecl → ViewHead
view_head heads v = record { name = v.name; columns = view_columns heads v }

-- the views of a catalog, each over views that nest less deep
abbrev pub views_at : Declared → ℕ → List ViewHead
views_at catalog zero = []
views_at catalog (suc depth) = map (view_head (heads_with catalog (views_at catalog depth))) catalog.views

-- views nest at most 16 deep
abbrev pub view_heads : Declared → List ViewHead
view_heads catalog = views_at catalog 16

abbrev pub heads_of : Declared → Heads
heads_of catalog = heads_with catalog (view_heads catalog)

-- ---- faults

-- the least number of a rule that is broken in a query's text over a catalog, or 0 where it is valid
abbrev pub fault : Declared → s.QueryText → ℕ
fault catalog text = text_fault (heads_of catalog) text

-- the same of a view: its body with its column list
abbrev pub view_fault : Heads → s.ViewDecl → ℕ
view_fault heads v = lesser (query_fault heads v.query []) (list_fault v.columns (columns heads v.query []))

-- a view that isn't valid, with the number of its fault
abbrev pub refusal_with : List ℕ → ℕ → Option (List ℕ × ℕ)
refusal_with name zero = None
refusal_with name (suc n) = Some (name, suc n)

abbrev pub refusal_of : Heads → s.ViewDecl → Option (List ℕ × ℕ)
refusal_of heads v = refusal_with v.name (view_fault heads v)

-- the first of these views that isn't valid
abbrev pub refused_among : Heads → List s.ViewDecl → Option (List ℕ × ℕ)
refused_among heads [] = None
refused_among heads (v ∷ views) = first_of (refusal_of heads v) (refused_among heads views)

-- the views that nest exactly this deep, in declared order
abbrev pub views_of_depth : Declared → ℕ → List s.ViewDecl
views_of_depth catalog depth = filter (λ (v : s.ViewDecl). nests_at (readers_of catalog.views) depth (reader_of v)) catalog.views

-- the first view that isn't valid, of those that nest at most this deep, by depth and then in declared order
abbrev pub refused_to : Declared → ℕ → Option (List ℕ × ℕ)
refused_to catalog zero = None
refused_to catalog (suc depth) = first_of (refused_to catalog depth) (refused_among (heads_of catalog) (views_of_depth catalog (suc depth)))

-- views nest at most 16 deep
abbrev pub view_refusal : Declared → Option (List ℕ × ℕ)
view_refusal catalog = refused_to catalog 16
