use Rattle.std.proofs.Common.{◌≡◌, map, take}
use Rattle.csv_tables.specs.Differ.{hash_of}
use Rattle.csv_tables.specs.KeyCells.{keys_in}
use Rattle.csv_tables.proofs.differ.hashes.Given as goal

abbrev pub invariant-loop-i : goal.invariant-loop-i
invariant-loop-i l = l.hashes.items ≡ map hash_of (keys_in l.key (take l.i l.rows))
