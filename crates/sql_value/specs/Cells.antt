-- The errors among cells, and the order of cells.
use Rattle.std.specs.Prelude.{ℕ, Option, Some, None, if◌then◌else◌, nat_le}
use Rattle.std.specs.Cmp.Lexicographic.{slice_cmp}
use Rattle.std.specs.Ordering.{int_cmp, nat_cmp}
use Rattle.std.specs.declared.cmp.Ordering.{Ordering}
use Rattle.std.specs.declared.cmp.Ordering.TheVariants.{Less, Equal, Greater}
use Rattle.sql_value.specs.declared.cell.Kind.{Kind}
use Rattle.sql_value.specs.declared.cell.Kind.TheVariants.{Cardinality, Division, Overflow}
use Rattle.sql_value.specs.declared.cell.Cell.{Cell}
use Rattle.sql_value.specs.declared.cell.Cell.TheVariants.{Int, Text, Null, Err}

-- the place in the order cardinality < division < overflow
abbrev pub kind_rank : Kind → ℕ
kind_rank Cardinality = 0
kind_rank Division = 1
kind_rank Overflow = 2

-- the greater one of two errors
abbrev pub worse : Kind → Kind → Kind
worse j k = if nat_le (kind_rank j) (kind_rank k) then k else j

-- the greatest of those that there are
abbrev pub worst_of : Option Kind → Option Kind → Option Kind
worst_of (Some j) (Some k) = Some (worse j k)
worst_of (Some j) None = Some j
worst_of None k = k

-- the error that a cell is
abbrev pub error_of : Cell → Option Kind
error_of (Err k) = Some k
error_of _ = None

-- the greatest error among two cells
abbrev pub worst : Cell → Cell → Option Kind
worst a b = worst_of (error_of a) (error_of b)

-- null first, then numbers ascending, then texts by code point, then errors by kind
abbrev pub cell_compare : Cell → Cell → Ordering
cell_compare Null Null = Equal
cell_compare Null _ = Less
cell_compare _ Null = Greater
cell_compare (Int x) (Int y) = int_cmp x y
cell_compare (Int x) _ = Less
cell_compare _ (Int y) = Greater
cell_compare (Text s) (Text t) = slice_cmp nat_cmp s t
cell_compare (Text s) _ = Less
cell_compare _ (Text t) = Greater
cell_compare (Err j) (Err k) = nat_cmp (kind_rank j) (kind_rank k)
