-- What names stand for in the checks: ranges with the types of their columns, and the scopes in which they are looked up (SQL-92, 6.3 and 6.4).
use Rattle.std.specs.Prelude.{ℕ, Bool, true, false, not, ◌&&◌, List, [], ◌∷◌, map, Option, Some, None, filter, find, if◌then◌else◌}
use Rattle.std.specs.List.{flat_map, list_any}
use Rattle.sql_ast.specs.declared.name.Column.{Column}
use Rattle.sql_ast.specs.Names.{same_name}
use Rattle.sql_meaning.specs.Scopes.{is_named}
use Rattle.sql_value.specs.declared.order_key.SqlType.{SqlType}
use Rattle.sql_faults.specs.declared.column.TypedColumn.{TypedColumn}
use Rattle.sql_faults.specs.declared.column.TypedRange.{TypedRange}

-- what a table's or view's name stands for: its columns
abbrev pub Heads : Type 0
Heads = List ℕ → Option (List TypedColumn)

-- the ranges of a FROM; in the list and HAVING of a grouped block also its GROUP BY
pub record Scope : Type 0 where
  pub ranges : List TypedRange
  pub grouping : Option (List Column)

-- the scopes that enclose a place, the innermost first
abbrev pub Scopes : Type 0
Scopes = List Scope

-- all columns of a FROM may be named
abbrev pub plain : List TypedRange → Scope
plain ranges = record { ranges = ranges; grouping = None }

-- of a grouped block
abbrev pub grouped : List TypedRange → List Column → Scope
grouped ranges by = record { ranges = ranges; grouping = Some by }

-- the same scopes within an aggregate's argument: all columns may be named
abbrev pub released : Scopes → Scopes
released scopes = map (λ (s : Scope). plain s.ranges) scopes

-- ---- columns of a name

abbrev pub has_name : List ℕ → TypedColumn → Bool
has_name name c = is_named name c.name

-- the columns of a name among these
abbrev pub columns_named : List ℕ → List TypedColumn → List TypedColumn
columns_named name columns = filter (has_name name) columns

-- the columns of a name in a FROM
abbrev pub named_in : List ℕ → List TypedRange → List TypedColumn
named_in name ranges = flat_map (λ (r : TypedRange). columns_named name r.columns) ranges

-- the first range of a name
abbrev pub range_in : List ℕ → List TypedRange → Option TypedRange
range_in name ranges = find (λ (r : TypedRange). same_name r.name name) ranges

-- the columns of the name in a range that was sought
abbrev pub in_range : List ℕ → Option TypedRange → List TypedColumn
in_range name None = []
in_range name (Some r) = columns_named name r.columns

-- the columns of a FROM that `c` or `r.c` may mean
abbrev pub columns_by : Option (List ℕ) → List ℕ → List TypedRange → List TypedColumn
columns_by None name ranges = named_in name ranges
columns_by (Some r) name ranges = in_range name (range_in r ranges)

abbrev pub columns_in : Column → List TypedRange → List TypedColumn
columns_in c ranges = columns_by c.range c.name ranges

abbrev pub is_some : {A : Type 0} → Option A → Bool
is_some None = false
is_some (Some x) = true

abbrev pub is_empty : {A : Type 0} → List A → Bool
is_empty [] = true
is_empty (x ∷ xs) = false

-- `c` means a FROM with a column c, `r.c` one with a range r
abbrev pub is_meant_by : Option (List ℕ) → List ℕ → List TypedRange → Bool
is_meant_by None name ranges = not (is_empty (named_in name ranges))
is_meant_by (Some r) name ranges = is_some (range_in r ranges)

abbrev pub is_meant : Column → List TypedRange → Bool
is_meant c ranges = is_meant_by c.range c.name ranges

-- the innermost scope that a column's name means
abbrev pub scope_of : Column → Scopes → Option Scope
scope_of c [] = None
scope_of c (s ∷ scopes) = if is_meant c s.ranges then Some s else scope_of c scopes

abbrev pub columns_of_scope : Column → Option Scope → List TypedColumn
columns_of_scope c None = []
columns_of_scope c (Some s) = columns_in c s.ranges

-- the columns that a column's name may mean
abbrev pub meant : Column → Scopes → List TypedColumn
meant c scopes = columns_of_scope c (scope_of c scopes)

-- a column's name means the FROM of the innermost block
abbrev pub is_own : Column → Scopes → Bool
is_own c [] = false
is_own c (s ∷ scopes) = is_meant c s.ranges

-- the innermost scope with a range of a name
abbrev pub scope_with : List ℕ → Scopes → Option Scope
scope_with name [] = None
scope_with name (s ∷ scopes) = if is_some (range_in name s.ranges) then Some s else scope_with name scopes

abbrev pub range_of_scope : List ℕ → Option Scope → Option TypedRange
range_of_scope name None = None
range_of_scope name (Some s) = range_in name s.ranges

-- the range of a name in the innermost scope that has one
abbrev pub range_of : List ℕ → Scopes → Option TypedRange
range_of name scopes = range_of_scope name (scope_with name scopes)

-- the type of the first of these columns
abbrev pub first_type : List TypedColumn → Option SqlType
first_type [] = None
first_type (c ∷ cs) = c.sort

-- ---- grouping columns (SQL-92, 7.7 and 7.9)

-- two range names may be one: they are equal, or one isn't written
abbrev pub agree : Option (List ℕ) → Option (List ℕ) → Bool
agree None other = true
agree (Some r) None = true
agree (Some r) (Some q) = same_name r q

-- two names of columns of one FROM mean the same column
abbrev pub is_same : Column → Column → Bool
is_same c d = same_name c.name d.name && agree c.range d.range

-- a grouped block may not name this column outside aggregates: it is none of GROUP BY
abbrev pub is_barred : Option (List Column) → Column → Bool
is_barred None c = false
is_barred (Some by) c = not (list_any (is_same c) by)

-- the same of a column of a range, which may have no name
abbrev pub is_column_barred : Option (List Column) → List ℕ → Option (List ℕ) → Bool
is_column_barred None range name = false
is_column_barred (Some by) range None = true
is_column_barred (Some by) range (Some name) = is_barred (Some by) (record { range = Some range; name = name })

abbrev pub is_range_barred : Option (List Column) → TypedRange → Bool
is_range_barred by r = list_any (λ (c : TypedColumn). is_column_barred by r.name c.name) r.columns

-- a column's name means one that may not be named
abbrev pub is_name_barred : Column → Option Scope → Bool
is_name_barred c None = false
is_name_barred c (Some s) = is_barred s.grouping c

abbrev pub is_found_barred : Option (List Column) → Option TypedRange → Bool
is_found_barred by None = false
is_found_barred by (Some r) = is_range_barred by r

-- `r.*` has a column that may not be named
abbrev pub is_star_barred : List ℕ → Option Scope → Bool
is_star_barred name None = false
is_star_barred name (Some s) = is_found_barred s.grouping (range_in name s.ranges)
