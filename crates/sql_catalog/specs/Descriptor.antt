-- What a table declares: its columns, and its keys by the places of their columns.
use Rattle.std.specs.Prelude.{ℕ, ◌+◌, ◌||◌, ◌&&◌, Bool, true, false, List, [], ◌∷◌, map, if◌then◌else◌}
use Rattle.std.specs.List.{list_any}
use Rattle.sql_ast.specs.declared.schema.ColumnConstraint.{ColumnConstraint}
use Rattle.sql_ast.specs.declared.schema.ColumnConstraint.TheVariants as constraint
use Rattle.sql_ast.specs.declared.schema.ColumnDecl.{ColumnDecl}
use Rattle.sql_ast.specs.declared.schema.Element.{Element}
use Rattle.sql_catalog.specs.declared.descriptor.ColumnDescriptor.{ColumnDescriptor}
use Rattle.sql_catalog.specs.declared.descriptor.KeyDescriptor.{KeyDescriptor}
use Rattle.sql_catalog.specs.declared.descriptor.TableDescriptor.{TableDescriptor}
use Rattle.sql_catalog.specs.declared.key.Key.{Key}
use Rattle.sql_ast.specs.Declarations.{columns_of, names_of}
use Rattle.sql_catalog.specs.Keys.{keys_of}
use Rattle.sql_ast.specs.Names.{same_name, contains}

-- NOT NULL is one of the constraints
abbrev pub is_marked : List ColumnConstraint → Bool
is_marked [] = false
is_marked (constraint.NotNull ∷ cs) = true
is_marked (constraint.PrimaryKey ∷ cs) = is_marked cs
is_marked (constraint.Unique ∷ cs) = is_marked cs

-- a column of this name is one of a primary key
abbrev pub in_primary : List Key → List ℕ → Bool
in_primary keys name = list_any (λ (k : Key). k.primary && contains k.columns name) keys

-- a column is not null where NOT NULL stands after it, or it is one of the primary key
abbrev pub describe_column : List Key → ColumnDecl → ColumnDescriptor
describe_column keys c = record { name = c.name; data_type = c.data_type; not_null = is_marked c.constraints || in_primary keys c.name }

-- the place, from 0, of the first of the names that is this one
abbrev pub place_of : List (List ℕ) → List ℕ → ℕ
place_of [] name = 0
place_of (n ∷ ns) name = if same_name n name then 0 else place_of ns name + 1

abbrev pub describe_key : List (List ℕ) → Key → KeyDescriptor
describe_key names k = record { primary = k.primary; places = map (place_of names) k.columns }

-- the columns in order, and the keys in the order of the text
abbrev pub describe : List Element → TableDescriptor
describe es = record { columns = map (describe_column (keys_of es)) (columns_of es); keys = map (describe_key (names_of (columns_of es))) (keys_of es) }
