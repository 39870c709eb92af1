use Rattle.csv_tables.proofs.Rows.{table-rows}
use Rattle.csv_tables.proofs.table.read_table.Goals as goal

pub returns : goal.returns
returns c = rw (← c.in_ok-table.ensures, table-rows c.in_ok-table.table c.args.bytes.now, ← c.new-records.ensures) c.read_rows.ensures
