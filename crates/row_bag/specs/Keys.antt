-- Keys of a bag.
use Rattle.std.specs.Prelude.{◌≡◌, ◌==◌, ◌↔◌, ℕ, ◌≤◌, Bool, true, List, [], map}
use Rattle.std.specs.List.{list_all, list_any}
use Rattle.sql_value.specs.declared.cell.Cell.{Cell}
use Rattle.sql_value.specs.declared.level.Level.{Level}
use Rattle.row_bag.specs.Bags.{Agree, bind, unit}
use Rattle.row_bag.specs.Joins.{how_many}
use Rattle.row_bag.specs.Order.{cell_of}
use Rattle.row_bag.specs.Sets.{distinct, grouped, multiplicity, same_cells}
use Rattle.row_bag.specs.declared.row.Row.{Row}
use Rattle.row_bag.specs.Filters.{passing}

-- no two rows that are there agree on what is read of them: it occurs at most once
abbrev pub IsKey : {T K : Type 0} → (K → K → Bool) → (T → K) → List (Row T) → Type 0
IsKey {T} {K} same read rows = (k : K) → multiplicity same k (bind rows (λ c. unit (read c))) ≤ 1

-- the cells of these columns, whose places count from 1
abbrev pub cells_at : List ℕ → List Cell → List Cell
cells_at columns cells = map (λ k. cell_of k cells) columns

-- these columns are a key: no two rows that are there agree on them, nulls and errors of one kind being equal
abbrev pub HasKey : List ℕ → List (Row (List Cell)) → Type 0
HasKey columns rows = IsKey same_cells (cells_at columns) rows

pub record KeyLaws : Type 0 where
  -- DISTINCT over a key is nothing
  pub distinct_goes : (columns : List ℕ) (rows : List (Row (List Cell))) → HasKey columns rows → Agree same_cells (distinct same_cells rows) rows
  pub kept : (columns : List ℕ) (xs ys : List (Row (List Cell))) → Agree same_cells xs ys → HasKey columns xs → HasKey columns ys
  -- the empty key is that of at most one row
  pub empty : (rows : List (Row (List Cell))) → HasKey [] rows ↔ (how_many rows ≤ 1)
  pub filtered : (columns : List ℕ) (level : List Cell → Level) (rows : List (Row (List Cell))) → HasKey columns rows → HasKey columns (passing level rows)
  -- more columns are a key too
  pub wider : (some all : List ℕ) (rows : List (Row (List Cell))) → list_all (λ k. list_any (λ j. j == k) all) some ≡ true → HasKey some rows → HasKey all rows
  -- the whole tuple is a key under DISTINCT, and what each row of a group has of its key is one
  pub of_distinct : (rows : List (Row (List Cell))) → IsKey same_cells (λ c. c) (distinct same_cells rows)
  pub of_groups :
      (key : List Cell → List Cell) (made : List Cell → List (Row (List Cell)) → List Cell) (read : List Cell → List Cell) (rows : List (Row (List Cell)))
      → ((k : List Cell) (group : List (Row (List Cell))) → read (made k group) ≡ k) → IsKey same_cells read (grouped same_cells key made rows)
