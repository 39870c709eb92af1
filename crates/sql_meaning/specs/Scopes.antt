-- What names stand for: ranges, and the scopes in which they are looked up (SQL-92, 6.3 and 6.4).
use Rattle.std.specs.Prelude.{ℕ, Bool, false, List, [], ◌∷◌, map, Option, Some, None, find, if◌then◌else◌}
use Rattle.std.specs.List.{flat_map}
use Rattle.sql_ast.specs.declared.name.Column.{Column}
use Rattle.sql_ast.specs.Names.{same_name}
use Rattle.sql_value.specs.declared.cell.Cell.{Cell}
use Rattle.sql_value.specs.declared.cell.Cell.TheVariants.{Null}

-- a column has this name; it may have none
abbrev pub is_named : List ℕ → Option (List ℕ) → Bool
is_named name None = false
is_named name (Some other) = same_name other name

-- a table of a FROM under its range name: the names of its columns, some of which may have none, and the cells of one of its rows
pub record Range : Type 0 where
  pub name : List ℕ
  pub columns : List (Option (List ℕ))
  pub cells : List Cell

-- the ranges of a FROM, in order
abbrev pub Frame : Type 0
Frame = List Range

-- the frames of the blocks that enclose a place, the innermost first
abbrev pub Scopes : Type 0
Scopes = List Frame

-- the cells of all columns of a FROM, in order
abbrev pub frame_cells : Frame → List Cell
frame_cells frame = flat_map (λ range. range.cells) frame

-- the first, or the second where there is no first
abbrev pub first_of : {A : Type 0} → Option A → Option A → Option A
first_of (Some x) other = Some x
first_of None other = other

-- the cell of the first column of a name
abbrev pub cell_named : List ℕ → List (Option (List ℕ)) → List Cell → Option Cell
cell_named name (column ∷ columns) (cell ∷ cells) = if is_named name column then Some cell else cell_named name columns cells
cell_named name columns cells = None

-- the cell of the first column of a name among these ranges
abbrev pub cell_in : List ℕ → Frame → Option Cell
cell_in name [] = None
cell_in name (range ∷ frame) = first_of (cell_named name range.columns range.cells) (cell_in name frame)

-- `c`: the cell of a column in the innermost scope that has one of the name
abbrev pub unqualified : List ℕ → Scopes → Option Cell
unqualified name [] = None
unqualified name (frame ∷ scopes) = first_of (cell_in name frame) (unqualified name scopes)

-- the first of these ranges that has a name
abbrev pub range_in : List ℕ → Frame → Option Range
range_in name frame = find (λ range. same_name range.name name) frame

-- the range of a name in the innermost scope that has one
abbrev pub range_of : List ℕ → Scopes → Option Range
range_of name [] = None
range_of name (frame ∷ scopes) = first_of (range_in name frame) (range_of name scopes)

-- the cell of a column of a range that was found
abbrev pub cell_of_range : List ℕ → Option Range → Option Cell
cell_of_range name None = None
cell_of_range name (Some range) = cell_named name range.columns range.cells

-- `r.c`, or `c`
abbrev pub found : Option (List ℕ) → List ℕ → Scopes → Option Cell
found (Some range) name scopes = cell_of_range name (range_of range scopes)
found None name scopes = unqualified name scopes

-- null where nothing was found, which isn't so in a valid query
abbrev pub or_null : Option Cell → Cell
or_null (Some cell) = cell
or_null None = Null

-- the cell that a column's name stands for
abbrev pub column_value : Column → Scopes → Cell
column_value c scopes = or_null (found c.range c.name scopes)

-- ---- without cells

-- the ranges of a FROM, each by its name and the names of its columns
abbrev pub Shape : Type 0
Shape = List (List ℕ × List (Option (List ℕ)))

-- the same of a row of a FROM
abbrev pub shape_of : Frame → Shape
shape_of frame = map (λ range. (range.name, range.columns)) frame

-- the same of the blocks that enclose a place
abbrev pub shapes_of : Scopes → List Shape
shapes_of scopes = map shape_of scopes

-- the columns of the first range of a name
abbrev pub columns_in : List ℕ → Shape → Option (List (Option (List ℕ)))
columns_in name [] = None
columns_in name (range ∷ ranges) = if same_name range.0 name then Some range.1 else columns_in name ranges

-- the columns of the range of a name in the innermost scope that has one
abbrev pub columns_of_range : List ℕ → List Shape → List (Option (List ℕ))
columns_of_range name [] = []
columns_of_range name (ranges ∷ shapes) = elim (columns_in name ranges) as (λ _. List (Option (List ℕ))) [ Some columns ↦ columns | None ↦ columns_of_range name shapes ]

-- rows of these ranges with one cell in all columns
abbrev pub filled : Cell → Shape → Frame
filled cell ranges = map (λ range. record { name = range.0; columns = range.1; cells = map (λ _. cell) range.1 }) ranges
