use Rattle.std.proofs.Common.{◌≡◌, drop}
use Rattle.std.specs.Prelude.{option_map}
use Rattle.csv_tables.specs.Differ.{hash_of}
use Rattle.csv_tables.specs.KeyCells.{contents_in, key_cells}
use Rattle.row_bag.specs.RowRefs.{lent}
use Rattle.csv_tables.proofs.Hashes.{hashed}
use Rattle.csv_tables.proofs.differ.hash_of.Given as goal

abbrev pub invariant-loop-place : goal.invariant-loop-place
invariant-loop-place l = option_map hash_of (key_cells l.key (contents_in (lent l.row))) ≡ hashed l.hasher l.key.primary (drop l.place-index l.places) (contents_in (lent l.row))
