-- What a name finds, as the code keeps it: whether it is no column, one or several, and the type of the first.
use Rattle.std.specs.Prelude.{◌≡◌, ℕ, List, [], ◌∷◌, Option, Some, None, option_map, if◌then◌else◌}
use Rattle.std.specs.Map.{lookup}
use Rattle.std.specs.Option.{unwrap_or}
use Rattle.sql_ast.specs.declared.name.Column.{Column}
use Rattle.sql_ast.specs.Names.{same_name}
use Rattle.sql_value.specs.declared.order_key.SqlType.{SqlType}
use Rattle.sql_faults.specs.Columns.{all_columns}
use Rattle.sql_faults.specs.Scopes.{columns_named, named_in, range_in}
use Rattle.sql_faults.specs.declared.column.TypedColumn.{TypedColumn}
use Rattle.sql_faults.specs.declared.column.TypedRange.{TypedRange}
use Rattle.sql_faults.specs.declared.found.Found.{Found}
use Rattle.sql_faults.specs.declared.found.Found.TheVariants.{Nothing, One, Several}

abbrev pub found : List TypedColumn → Found
found [] = Nothing
found (c ∷ []) = One c.sort
found (c ∷ d ∷ cs) = Several c.sort

-- among some columns and then among others
abbrev pub joined : Found → Found → Found
joined Nothing b = b
joined (One sort) Nothing = One sort
joined (One sort) (One other) = Several sort
joined (One sort) (Several other) = Several sort
joined (Several sort) b = Several sort

-- none where nothing is found
abbrev pub found_any : Found → Option Found
found_any Nothing = None
found_any (One sort) = Some (One sort)
found_any (Several sort) = Some (Several sort)

-- none where the name doesn't mean this FROM
abbrev pub found_by : Option (List ℕ) → List ℕ → List TypedRange → Option Found
found_by None name ranges = found_any (found (named_in name ranges))
found_by (Some r) name ranges = option_map (λ (q : TypedRange). found (columns_named name q.columns)) (range_in r ranges)

abbrev pub found_in : Column → List TypedRange → Option Found
found_in c ranges = found_by c.range c.name ranges

abbrev pub found_fault : Found → ℕ
found_fault Nothing = 8
found_fault (One sort) = 0
found_fault (Several sort) = 9

abbrev pub found_type : Found → Option SqlType
found_type Nothing = None
found_type (One sort) = sort
found_type (Several sort) = sort

-- ---- by a map from names

-- what names with what they find tell of a name; one that isn't there finds nothing
abbrev pub told_of : List (List ℕ × Found) → List ℕ → Found
told_of finds name = unwrap_or (lookup (same_name name) finds) Nothing

-- one more column of this name and type is noted
abbrev pub NotedName : List (List ℕ × Found) → List ℕ → Option SqlType → List (List ℕ × Found) → Type 0
NotedName old name sort new = (other : List ℕ) → told_of new other ≡ (if same_name name other then joined (told_of old other) (One sort) else told_of old other)

-- more columns are noted
abbrev pub Noted : List (List ℕ × Found) → List TypedColumn → List (List ℕ × Found) → Type 0
Noted old columns new = (name : List ℕ) → told_of new name ≡ joined (told_of old name) (found (columns_named name columns))

-- it is told of each name what it finds among the columns of these ranges
abbrev pub Tells : List (List ℕ × Found) → List TypedRange → Type 0
Tells finds ranges = (name : List ℕ) → told_of finds name ≡ found (columns_named name (all_columns ranges))
