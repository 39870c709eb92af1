-- The columns and keys of a declared table.
use Rattle.std.specs.Prelude.{ℕ, ◌||◌, Bool, true, false, List, [], ◌∷◌, ◌++◌, map}
use Rattle.sql_ast.specs.declared.schema.ColumnConstraint.{ColumnConstraint}
use Rattle.sql_ast.specs.declared.schema.ColumnConstraint.TheVariants as constraint
use Rattle.sql_ast.specs.declared.schema.ColumnDecl.{ColumnDecl}
use Rattle.sql_ast.specs.declared.schema.Element.{Element}
use Rattle.sql_ast.specs.declared.schema.Element.TheVariants as element
use Rattle.sql_ast.specs.declared.word.DataType.{DataType}
use Rattle.sql_catalog.specs.declared.key.Key.{Key}

abbrev pub key : Bool → List (List ℕ) → Key
key primary columns = record { primary = primary; columns = columns }

-- the keys that the constraints after a column of this name declare, in order
abbrev pub column_keys : List ℕ → List ColumnConstraint → List Key
column_keys name [] = []
column_keys name (constraint.NotNull ∷ cs) = column_keys name cs
column_keys name (constraint.PrimaryKey ∷ cs) = key true (name ∷ []) ∷ column_keys name cs
column_keys name (constraint.Unique ∷ cs) = key false (name ∷ []) ∷ column_keys name cs

-- the keys that a table's elements declare, in order
abbrev pub keys_of : List Element → List Key
keys_of [] = []
keys_of (element.Column c ∷ es) = column_keys c.name c.constraints ++ keys_of es
keys_of (element.PrimaryKey ns ∷ es) = key true ns ∷ keys_of es
keys_of (element.Unique ns ∷ es) = key false ns ∷ keys_of es
