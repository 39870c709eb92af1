-- Tables that satisfy a schema.
use Rattle.std.specs.Prelude.{◌≡◌, ⊤, true, false, List, [], ◌∷◌, All}
use Rattle.std.specs.List.{AllZip, list_any}
use Rattle.row_bag.specs.declared.row.Row.{Row}
use Rattle.row_bag.specs.declared.tables.Table.{Table}
use Rattle.sql_ast.specs.declared.schema.TableDecl.{TableDecl}
use Rattle.sql_ast.specs.declared.word.DataType.{DataType}
use Rattle.sql_ast.specs.declared.word.DataType.TheVariants as types
use Rattle.sql_catalog.specs.Descriptor.{describe}
use Rattle.sql_catalog.specs.declared.descriptor.ColumnDescriptor.{ColumnDescriptor}
use Rattle.sql_catalog.specs.declared.descriptor.TableDescriptor.{TableDescriptor}
use Rattle.sql_value.specs.Arithmetic.{fits_i64}
use Rattle.sql_value.specs.declared.cell.Cell.{Cell}
use Rattle.sql_value.specs.declared.cell.Cell.TheVariants as cell
use Rattle.sql_value.specs.declared.level.Level.TheVariants.{Yes}
use Rattle.csv_tables.specs.Contents.{is_longer}
use Rattle.csv_tables.specs.KeyCells.{keys_in, same_cells}

-- a cell that a column of this type may hold: null, or a value of the type, a number of 64 bits or a text of no more characters than the type takes
abbrev pub OfType : DataType → Cell → Type 0
OfType t cell.Null = ⊤
OfType t (cell.Err k) = ⊥
OfType types.Integer (cell.Int z) = fits_i64 z ≡ true
OfType types.Integer (cell.Text text) = ⊥
OfType types.Int (cell.Int z) = fits_i64 z ≡ true
OfType types.Int (cell.Text text) = ⊥
OfType (types.Varchar n) (cell.Int z) = ⊥
OfType (types.Varchar n) (cell.Text text) = is_longer text n ≡ false

-- a cell that a column may hold: of its type, and no null where it takes none
pub record FitsColumn (c : ColumnDescriptor) (x : Cell) : Type 0 where
  pub of_type : OfType c.data_type x
  pub allowed : c.not_null ≡ true → x ≡ cell.Null → ⊥

-- a row of a table: it is wholly there, with exactly one cell for each column, which may hold it
pub record FitsRow (t : TableDescriptor) (row : Row (List Cell)) : Type 0 where
  pub level : row.level ≡ Yes
  pub cells : AllZip FitsColumn t.columns row.cells

-- no two of these are equal
abbrev pub Distinct : List (List Cell) → Type 0
Distinct [] = ⊤
Distinct (t ∷ ts) = (list_any (same_cells t) ts ≡ false) × Distinct ts

-- the rows of a table: no two have the same cells of a key, where these count
pub record FitsRows (t : TableDescriptor) (all : List (Row (List Cell))) : Type 0 where
  pub rows : All (FitsRow t) all
  pub keys : All (λ k. Distinct (keys_in k all)) t.keys

-- the table is of this declaration: it has its name, and its rows are rows of it
pub record FitsTable (d : TableDecl) (t : Table) : Type 0 where
  pub name : t.name ≡ d.name
  pub rows : FitsRows (describe d.elements) t.bag

-- the tables are of these declarations, one each, in declared order
abbrev pub FitsSchema : List TableDecl → List Table → Type 0
FitsSchema ds ts = AllZip FitsTable ds ts
