-- What a schema declares: its tables and views, in declared order, or the least number that refuses it.
use Rattle.std.specs.Prelude.{ℕ, ℤ, pos, negsuc, ◌==◌, ◌||◌, ◌&&◌, not, nat_eq, nat_le, nat_lt, if◌then◌else◌, Bool, true, false, List, [], ◌∷◌, ◌++◌, length, map, Option, None, Some, Result, Ok, Err, find, count_by}
use Rattle.std.specs.List.{list_any, list_all}
use Rattle.sql_ast.specs.declared.schema.ColumnDecl.{ColumnDecl}
use Rattle.sql_ast.specs.declared.schema.TableDecl.{TableDecl}
use Rattle.sql_ast.specs.declared.schema.ViewDecl.{ViewDecl}
use Rattle.sql_ast.specs.declared.word.DataType.{DataType}
use Rattle.sql_ast.specs.declared.word.DataType.TheVariants as types
use Rattle.sql_ast.specs.Shown as shown
use Rattle.sql_ast.specs.Syntax as s
use Rattle.sql_catalog.specs.declared.key.Key.{Key}
use Rattle.sql_catalog.specs.declared.reader.Reader.{Reader}
use Rattle.sql_ast.specs.Declarations.{Declared, columns_of, declares, known_names, names_of, tables_of, types_of, views_of}
use Rattle.sql_catalog.specs.Keys.{keys_of}
use Rattle.sql_ast.specs.Names.{same_name, contains, has_twins}
use Rattle.sql_catalog.specs.Nesting.{readers_of, is_recursive, nests_over}

-- ---- what refuses a schema

-- 6: a view's body names neither a table nor a view of the schema
abbrev pub reads_unknown : List (List ℕ) → List Reader → Bool
reads_unknown known views = list_any (λ (v : Reader). list_any (λ n. not (contains known n)) v.reads) views

-- two columns of a table are equal
abbrev pub has_twin_columns : TableDecl → Bool
has_twin_columns t = has_twins (names_of (columns_of t.elements))

-- two names in a view's list are equal
abbrev pub has_twin_list : List s.ViewDecl → Bool
has_twin_list views = list_any (λ (v : s.ViewDecl). has_twins v.columns) views

-- 8: two tables or views, two columns of a table, or two names in a view's list are equal
abbrev pub has_duplicate : Declared → Bool
has_duplicate d =
    has_twins (known_names d)
    || (list_any has_twin_columns d.tables
    || has_twin_list d.views)

-- a key names a column that the table lacks, or one column twice
abbrev pub is_bad_key : List (List ℕ) → Key → Bool
is_bad_key columns k = list_any (λ n. not (contains columns n)) k.columns || has_twins k.columns

-- a key is declared by PRIMARY KEY
abbrev pub is_primary : Key → Bool
is_primary k = k.primary

-- 9: a key of a table is bad, or a table has two primary keys
abbrev pub has_bad_key : TableDecl → Bool
has_bad_key t =
    list_any (is_bad_key (names_of (columns_of t.elements))) (keys_of t.elements)
    || nat_lt 1 (count_by is_primary (keys_of t.elements))

-- a letter A to Z or a to z, a digit or `_`
abbrev pub is_plain : ℕ → Bool
is_plain c =
    (nat_le 65 c && nat_le c 90) || ((nat_le 97 c && nat_le c 122) || ((nat_le 48 c && nat_le c 57) || nat_eq c 95))

-- a type is no VARCHAR, or its length is 1 to 4,096
abbrev pub fits_length : DataType → Bool
fits_length types.Integer = true
fits_length types.Int = true
fits_length (types.Varchar (pos n)) = nat_le 1 n && nat_le n 4096
fits_length (types.Varchar (negsuc n)) = false

-- a table has no column or over 64, a VARCHAR of a length that does not fit, or a name with a character that is not plain
abbrev pub is_over_limits : TableDecl → Bool
is_over_limits t =
    ((length (columns_of t.elements) == 0) || nat_lt 64 (length (columns_of t.elements)))
    || (list_any (λ d. not (fits_length d)) (types_of (columns_of t.elements))
    || not (list_all is_plain t.name))

-- 10: there are over 64 tables or over 64 views, a table is over its limits, or views nest over 16 deep
abbrev pub passes_limits : List TableDecl → List Reader → Bool
passes_limits tables views =
    (nat_lt 64 (length tables) || nat_lt 64 (length views))
    || (list_any is_over_limits tables
    || list_any (nests_over views 16) views)

-- the least number that refuses these tables and views, or none
abbrev pub fault : Declared → Option ℕ
fault d =
    if reads_unknown (known_names d) (readers_of d.views) then Some 6
    else if is_recursive (readers_of d.views) then Some 7
    else if has_duplicate d then Some 8
    else if list_any has_bad_key d.tables then Some 9
    else if passes_limits d.tables (readers_of d.views) then Some 10
    else None

abbrev pub all_of : s.Schema → Declared
all_of x = declares (tables_of x.statements) (views_of x.statements)

abbrev pub unless : Declared → Option ℕ → Result Declared ℕ
unless d None = Ok d
unless d (Some n) = Err n

-- the tables and views that a schema declares, or the least number that refuses it
abbrev pub declared : s.Schema → Result Declared ℕ
declared x = unless (all_of x) (fault (all_of x))
