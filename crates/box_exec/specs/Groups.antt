-- Groups, by the first cells of a head.
use Rattle.std.specs.Prelude.{ℕ, ◌+◌, ◌++◌, List, map, length, Option, None}
use Rattle.group_states.specs.declared.fold.Fold.{Fold}
use Rattle.group_states.specs.declared.fold.Fold.TheVariants.{Rows, Of, Nothing}
use Rattle.row_bag.specs.Bags.{if_there, row}
use Rattle.row_bag.specs.Errors.{error_at, error_in}
use Rattle.row_bag.specs.Sets.{collapsed, failed_cells, grouped, same_cells}
use Rattle.row_bag.specs.declared.row.Row.{Row}
use Rattle.sql_value.specs.Cells.{worst_of}
use Rattle.sql_value.specs.declared.cell.Cell.{Cell}
use Rattle.sql_value.specs.declared.cell.Cell.TheVariants.{Null}
use Rattle.sql_value.specs.declared.cell.Kind.{Kind}
use Rattle.qgm_meaning.specs.Aggregated.{aggregate_of, taken_of}
use Rattle.qgm_meaning.specs.Meaning.{fold_cell, nothing}
use Rattle.qgm_meaning.specs.Values.{Bag, Environment, bound, head_cells, value}
use Rattle.qgm_terms.specs.Terms.{Term, int, text, null_int, null_text, col, both, minus_of, choose, count_all, fold, scalar}

-- ---- the cells of a group that aren't of its key

-- the cell that a term is
abbrev pub fold_of : Term → Fold
fold_of count_all = Rows
fold_of (fold f t x) = Of (aggregate_of f) (taken_of t)
-- a group has no other cell
fold_of (int n) = Nothing
fold_of (text s) = Nothing
fold_of null_int = Nothing
fold_of null_text = Nothing
fold_of (col r k) = Nothing
fold_of (both o x y) = Nothing
fold_of (minus_of x) = Nothing
fold_of (choose s x) = Nothing
fold_of (scalar r) = Nothing

-- what it takes of a row; null where it is no aggregate
abbrev pub argument_of : Term → Environment → Cell
argument_of count_all env = Null
argument_of (fold f t x) env = value nothing x env
argument_of (int n) env = Null
argument_of (text s) env = Null
argument_of null_int env = Null
argument_of null_text env = Null
argument_of (col r k) env = Null
argument_of (both o x y) env = Null
argument_of (minus_of x) env = Null
argument_of (choose s x) env = Null
argument_of (scalar r) env = Null

abbrev pub arguments_in : List Term → Environment → List Cell
arguments_in folds env = map (λ x. argument_of x env) folds

-- ---- groups

-- the key of a row
abbrev pub key_of : List Term → ℕ → Environment → List Cell → List Cell
key_of keys q env cells = head_cells nothing keys (bound q cells env)

-- what the other cells take of it
abbrev pub arguments_of : List Term → ℕ → Environment → List Cell → List Cell
arguments_of folds q env cells = arguments_in folds (bound q cells env)

-- a key, and then what the other cells take of the row
abbrev pub asked : List Term → List Term → ℕ → Environment → Row (List Cell) → Row (List Cell)
asked keys folds q env r = row (key_of keys q env r.cells ++ arguments_of folds q env r.cells) r.level

-- one row for each key that occurs, or one of the greatest error
abbrev pub by_keys : List Term → List Term → ℕ → Environment → Bag → Bag
by_keys keys folds q env rows =
    collapsed (λ cells. error_in (key_of keys q env cells)) (failed_cells (length keys + length folds)) rows
    (grouped same_cells (key_of keys q env) (λ key members. key ++ map (fold_cell q env members) folds) rows)

-- the error that the level of a row is, if the row is there
abbrev pub level_error_of : Row (List Cell) → Option Kind
level_error_of r = if_there None (λ cells level. worst_of (error_at level) None) r.cells r.level
