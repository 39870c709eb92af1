-- The rows of what a box shows.
use Rattle.std.proofs.Common.{ℕ, List, [], ◌∷◌, ◌++◌, map, get_or, length, pos}
use Rattle.row_bag.specs.Bags.{bind, unit}
use Rattle.sql_meaning.specs.Groups.{no_group}
use Rattle.sql_meaning.specs.Joins.{kept}
use Rattle.sql_meaning.specs.ResolvedMeaning as k
use Rattle.sql_meaning.specs.ResolvedTrees.{Test, Froms}
use Rattle.sql_value.specs.declared.cell.Cell.{Cell}
use Rattle.sql_value.specs.declared.cell.Cell.TheVariants.{Int, Null}
use Rattle.qgm_meaning.specs.Meaning.{grouped_rows}
use Rattle.qgm_meaning.specs.Values.{Bag}
use Rattle.qgm_translation.specs.Leaves.{Leaf, count, fold, sub}
use Rattle.qgm_translation.specs.Shown.{Thing, of_query, of_operand, of_rows, of_groups, groups_list, padded}

-- the cells of a row's keys
abbrev pub picked : List ℕ → List Cell → List Cell
picked places cells = map (λ place. get_or cells place Null) places

module _ (known : List ℕ → Bag) where
  abbrev pub arguments : List Leaf → List Cell → List Cell
  arguments [] cells = []
  arguments (sub f kind query ∷ ls) cells = arguments ls cells
  arguments (fold f distinct x ∷ ls) cells = k.value known x (cells ∷ []) no_group ∷ arguments ls cells
  arguments (count ∷ ls) cells = arguments ls cells

  -- the rows of a block that are grouped
  abbrev pub filtered : Froms → Test → k.Scopes → Bag
  filtered from by scopes = kept (λ row. k.truth known by (row ∷ scopes) no_group) (k.frames known from scopes)

  abbrev pub lower_rows : Froms → Test → List ℕ → List Leaf → k.Scopes → Bag
  lower_rows from by places ls scopes = bind (filtered from by scopes) (λ cells. unit (padded (Int (pos 1)) (picked places cells ++ arguments ls cells)))

  abbrev pub group_rows : List ℕ → List Leaf → Bag → Bag
  group_rows places ls rows = grouped_rows (length places) (groups_list places ls 0) 0 [] rows

  abbrev pub thing_rows : Thing → k.Scopes → Bag
  thing_rows (of_query x) scopes = k.rows known x scopes
  thing_rows (of_operand x) scopes = k.from_rows known x scopes
  thing_rows (of_rows from by places ls) scopes = lower_rows from by places ls scopes
  thing_rows (of_groups from by places ls) scopes = group_rows places ls (lower_rows from by places ls scopes)
