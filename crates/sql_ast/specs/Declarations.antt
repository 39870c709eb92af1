-- What a schema's statements declare: its tables and views, their names and their columns, each in declared order.
use Rattle.std.specs.Prelude.{ℕ, List, [], ◌∷◌, ◌++◌, map, Option, find}
use Rattle.sql_ast.specs.declared.schema.ColumnDecl.{ColumnDecl}
use Rattle.sql_ast.specs.declared.schema.Element.{Element}
use Rattle.sql_ast.specs.declared.schema.Element.TheVariants as element
use Rattle.sql_ast.specs.declared.schema.TableDecl.{TableDecl}
use Rattle.sql_ast.specs.declared.word.DataType.{DataType}
use Rattle.sql_ast.specs.Names.{same_name}
use Rattle.sql_ast.specs.Syntax as s

-- the tables and the views of a schema, each in declared order
pub record Declared : Type 0 where
  pub tables : List TableDecl
  pub views : List s.ViewDecl

abbrev pub declares : List TableDecl → List s.ViewDecl → Declared
declares tables views = record { tables = tables; views = views }

-- the tables among a schema's statements, in order
abbrev pub tables_of : List s.Statement → List TableDecl
tables_of [] = []
tables_of (s.table t ∷ xs) = t ∷ tables_of xs
tables_of (s.view v ∷ xs) = tables_of xs

-- the views among them, in order
abbrev pub views_of : List s.Statement → List s.ViewDecl
views_of [] = []
views_of (s.table t ∷ xs) = views_of xs
views_of (s.view v ∷ xs) = v ∷ views_of xs

-- the tables' names
abbrev pub table_names : List TableDecl → List (List ℕ)
table_names tables = map (λ (t : TableDecl). t.name) tables

-- the views' names
abbrev pub view_names : List s.ViewDecl → List (List ℕ)
view_names views = map (λ (v : s.ViewDecl). v.name) views

-- the names of tables and views
abbrev pub known_names : Declared → List (List ℕ)
known_names d = table_names d.tables ++ view_names d.views

-- the columns among a table's elements, in order
abbrev pub columns_of : List Element → List ColumnDecl
columns_of [] = []
columns_of (element.Column c ∷ es) = c ∷ columns_of es
columns_of (element.PrimaryKey ns ∷ es) = columns_of es
columns_of (element.Unique ns ∷ es) = columns_of es

-- their names
abbrev pub names_of : List ColumnDecl → List (List ℕ)
names_of columns = map (λ (c : ColumnDecl). c.name) columns

-- their types
abbrev pub types_of : List ColumnDecl → List DataType
types_of columns = map (λ (c : ColumnDecl). c.data_type) columns

-- the first table of a name, or none
abbrev pub table_named : List TableDecl → List ℕ → Option TableDecl
table_named tables name = find (λ (t : TableDecl). same_name t.name name) tables

-- the first view of a name, or none
abbrev pub view_named : List s.ViewDecl → List ℕ → Option s.ViewDecl
view_named views name = find (λ (v : s.ViewDecl). same_name v.name name) views
