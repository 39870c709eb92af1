-- Tuples of cells that compare as equal are equal.
use Rattle.std.proofs.Common.{◌≡◌, ◌∙◌, List, ap, Decides}
use Rattle.std.proofs.lemmas.Cmp.{tied_itself}
use Rattle.std.specs.Cmp.Lexicographic.{slice_cmp}
use Rattle.std.specs.Ordering.{is_eq}
use Rattle.sql_value.specs.Cells.{cell_compare}
use Rattle.sql_value.specs.declared.cell.Cell.{Cell}
use Rattle.row_bag.specs.Sets.{same_cells}
use Rattle.row_bag.proofs.Order.{cells-tie, cells-total, level}

pub same_cells-decides : (a b : List Cell) → Decides (same_cells a b) (a ≡ b)
same_cells-decides a b =
    (λ h. cells-tie a b (level (slice_cmp cell_compare a b) h), λ e. ap (λ (c : List Cell). same_cells c b) e ∙ ap is_eq (tied_itself cells-total b))
