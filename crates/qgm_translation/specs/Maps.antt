-- Where the columns of the blocks that enclose a place are seen.
use Rattle.std.specs.Prelude.{ℕ, ◌==◌, not, Bool, true, List, map, pos}
use Rattle.std.specs.List.{list_all}
use Rattle.row_bag.specs.Order.{cell_of}
use Rattle.sql_value.specs.declared.cell.Cell.{Cell}
use Rattle.sql_value.specs.declared.cell.Cell.TheVariants.{Int, Null}
use Rattle.qgm_meaning.specs.Values.{Environment, row_of}
use Rattle.qgm_terms.specs.Terms.{Term, int, null_int, col}

-- where a cell of a scope is seen
pub data Ref : Type 0 where
  -- nowhere: null, which no valid query names
  nothing : Ref
  -- nowhere: the count of no row, which no valid query names
  none_counted : Ref
  -- in a column of a quantifier
  column : ℕ → ℕ → Ref

-- where the columns of a FROM are seen, in their order
abbrev pub Frame : Type 0
Frame = List Ref

-- the frames of the blocks that enclose a place, the innermost first
abbrev pub Map : Type 0
Map = List Frame

-- the cell that is seen
abbrev pub ref_cell : Environment → Ref → Cell
ref_cell env nothing = Null
ref_cell env none_counted = Int (pos 0)
ref_cell env (column q k) = cell_of k (row_of q env)

-- the row of a FROM that a frame shows
abbrev pub seen_in : Environment → Frame → List Cell
seen_in env frame = map (ref_cell env) frame

-- the scopes that a map shows
abbrev pub seen : Environment → Map → List (List Cell)
seen env m = map (seen_in env) m

-- the expression that a column is in a box
abbrev pub ref_term : Ref → Term
ref_term nothing = null_int
ref_term none_counted = int (pos 0)
ref_term (column q k) = col q k

-- ---- quantifiers that a map doesn't name

abbrev pub is_apart : ℕ → Ref → Bool
is_apart q nothing = true
is_apart q none_counted = true
is_apart q (column p k) = not (p == q)

abbrev pub fresh_in : ℕ → Frame → Bool
fresh_in q frame = list_all (is_apart q) frame

abbrev pub fresh : ℕ → Map → Bool
fresh q m = list_all (fresh_in q) m
