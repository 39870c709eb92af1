use Rattle.std.proofs.Common.{refl}
use Rattle.std.specs.List.{drop-map}
use Rattle.qgm_check.proofs.shapes.others_fold.Goals as goal

pub returns : goal.returns
returns c = rw (c.all_aggregates.ensures, c.other_cells.ensures) (simp (drop-map) refl)
