use Rattle.std.proofs.Common.{◌≡◌, ◌≤◌, [], List, length}
use Rattle.sql_catalog.specs.declared.descriptor.KeyDescriptor.{KeyDescriptor}
use Rattle.csv_tables.specs.Checked.{checked, with_keys}
use Rattle.csv_tables.specs.Tables.{rows_after}
use Rattle.csv_tables.proofs.table.take_rows.Given as goal

abbrev pub invariant-loop-seen : goal.invariant-loop-seen
invariant-loop-seen l = record {
  rows : (keys : List KeyDescriptor) → rows_after (with_keys l.keyless keys) [] l.fn.records ≡ checked (with_keys l.keyless keys) l.rows l.records;
  few : length l.rows ≤ 1000000;
  seen : l.seen.items ≡ [];
}

abbrev pub decreases-loop-seen : goal.decreases-loop-seen
decreases-loop-seen l = length l.records
