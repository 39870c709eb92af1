use Rattle.std.proofs.Common.{◌≡◌, drop}
use Rattle.csv_tables.specs.KeyCells.{cells_at}
use Rattle.csv_tables.proofs.KeySteps.{after}
use Rattle.csv_tables.proofs.seen.cells_at.Given as goal

abbrev pub invariant-loop-place : goal.invariant-loop-place
invariant-loop-place g l = cells_at l.places (g.R.ReadRecord.contents l.fields) ≡ after l.cells (cells_at (drop l.place-index l.places) (g.R.ReadRecord.contents l.fields))
