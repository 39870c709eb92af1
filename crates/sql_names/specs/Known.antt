-- The declared tables and views as ranges, each under its own name.
use Rattle.std.specs.Prelude.{ℕ, List, [], ◌++◌, map, Option}
use Rattle.sql_ast.specs.declared.schema.TableDecl.{TableDecl}
use Rattle.sql_ast.specs.Syntax as s
use Rattle.sql_ast.specs.Declarations.{Declared}
use Rattle.sql_ast.specs.Declarations.{names_of}
use Rattle.sql_ast.specs.Declarations.{columns_of as declared_columns}
use Rattle.sql_meaning.specs.Names.{all_named, names, renamed}
use Rattle.sql_meaning.specs.Scopes.{Shape}
use Rattle.sql_meaning.specs.ResolvedViews.{ViewTree}
use Rattle.sql_names.specs.Resolved.{Columns, bare, query}

abbrev pub table_range : TableDecl → List ℕ × List (Option (List ℕ))
table_range table = (table.name, all_named (names_of (declared_columns table.elements)))

-- a view whose body reads tables and views of these columns
abbrev pub view_range : Columns → s.ViewDecl → List ℕ × List (Option (List ℕ))
view_range columns view = (view.name, renamed view.columns (names (bare columns) view.query []))

-- all tables, and then all views
abbrev pub ranges_over : Columns → Declared → Shape
ranges_over columns catalog = map table_range catalog.tables ++ map (view_range columns) catalog.views

-- a view with its body resolved, over tables and views of these columns
abbrev pub view_over : Columns → s.ViewDecl → ViewTree
view_over columns view = record { name = view.name; body = query columns [] view.query }
