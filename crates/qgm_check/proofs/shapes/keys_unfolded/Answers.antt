use Rattle.std.proofs.Common.{refl}
use Rattle.std.specs.List.{take-map}
use Rattle.qgm_check.proofs.shapes.keys_unfolded.Goals as goal

pub returns : goal.returns
returns c = rw (c.stands_in_cells.ensures, c.first_cells.ensures) (simp (take-map) refl)
