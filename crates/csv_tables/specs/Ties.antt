-- Cells that tie are equal, so that they are told apart and hashed as what they are.
use Rattle.std.specs.Prelude.{◌≡◌, true}
use Rattle.std.specs.Bool.{Decides}
use Rattle.std.specs.Cmp.{Equal-is, IsEquivalence}
use Rattle.std.specs.Hash.{Alike, items_Alike, same_Alike, slice}
use Rattle.std.proofs.Common.{subst}
use Rattle.std.proofs.lemmas.Cmp.{eq_by_cmp_equiv, lists_equiv}
use Rattle.sql_value.proofs.Total.{cell-ties, cell-total}
use Rattle.sql_value.specs.Cells.{cell_compare}
use Rattle.sql_value.specs.declared.cell.Cell.{Cell}
use Rattle.csv_tables.specs.KeyCells.{cell_writes, same_cell, same_cells}

pub cell_equiv : IsEquivalence same_cell
cell_equiv = eq_by_cmp_equiv cell-total

pub cells_equiv : IsEquivalence same_cells
cells_equiv = lists_equiv cell_equiv

pub cell_decides : (x y : Cell) → Decides (same_cell x y) (x ≡ y)
cell_decides x y = (λ tie. cell-ties x y ((Equal-is (cell_compare x y)).0 tie), λ same. subst (λ z. same_cell x z ≡ true) same (IsEquivalence.refl cell_equiv x))

pub cell_alike : Alike same_cell cell_writes
cell_alike = same_Alike cell_writes cell_decides

pub cells_alike : Alike same_cells (slice cell_writes)
cells_alike = items_Alike cell_alike
