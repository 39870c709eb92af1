-- What a query means by names it means by places.
use Rattle.std.specs.Prelude.{◌≡◌, ⊤, ℕ, List, [], ◌∷◌, length, map, Option, Some, None, All}
use Rattle.row_bag.specs.declared.row.Row.{Row}
use Rattle.sql_value.specs.declared.cell.Cell.{Cell}
use Rattle.sql_meaning.specs.Names.{Known, Relation}
use Rattle.sql_meaning.specs.Scopes.{Frame, Scopes, frame_cells}
use Rattle.sql_names.specs.Resolved.{Columns}

-- ---- tables and views

-- the names of a relation's columns
abbrev pub names_of : Option Relation → Option (List (Option (List ℕ)))
names_of None = None
names_of (Some table) = Some table.columns

-- the names of the columns of tables and views, by name
abbrev pub columns_of : Known → Columns
columns_of known name = names_of (known name)

-- a relation's rows; none where there is none
abbrev pub rows_of : Option Relation → List (Row (List Cell))
rows_of None = []
rows_of (Some table) = table.rows

-- the rows of tables and views, by name
abbrev pub bags_of : Known → List ℕ → List (Row (List Cell))
bags_of known name = rows_of (known name)

-- each row has a cell for each column
abbrev pub IsWide : Option Relation → Type 0
IsWide None = ⊤
IsWide (Some table) = All (λ row. length row.cells ≡ length table.columns) table.rows

-- the same of all tables and views
abbrev pub AllWide : Known → Type 0
AllWide known = (name : List ℕ) → IsWide (known name)

-- ---- scopes

-- each range has a cell for each column
abbrev pub IsWideFrame : Frame → Type 0
IsWideFrame [] = ⊤
IsWideFrame (range ∷ frame) = (length range.cells ≡ length range.columns) × IsWideFrame frame

abbrev pub AreWideFrames : Scopes → Type 0
AreWideFrames [] = ⊤
AreWideFrames (frame ∷ scopes) = IsWideFrame frame × AreWideFrames scopes

-- each row of a FROM as one list of cells
abbrev pub flat : Scopes → List (List Cell)
flat scopes = map frame_cells scopes
