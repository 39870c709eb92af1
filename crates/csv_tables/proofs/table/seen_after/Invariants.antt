use Rattle.std.proofs.Common.{◌≡◌, [], drop, map, take}
use Rattle.csv_tables.specs.Checked.{keys_checked}
use Rattle.csv_tables.specs.Seen.{seen_in}
use Rattle.csv_tables.proofs.table.seen_after.Given as goal

abbrev pub invariant-loop-i : goal.invariant-loop-i
invariant-loop-i l = record {
  all : keys_checked l.keys [] l.rows ≡ keys_checked l.keys (take l.i l.rows) (drop l.i l.rows);
  seen : l.seen.items ≡ map (seen_in (take l.i l.rows)) l.keys;
}
