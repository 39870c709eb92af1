use Rattle.std.proofs.Common.{◌≡◌, take, Some, false}
use Rattle.csv.specs.Writing.{fields_written, has_written, text_written, writer_setup}
use Rattle.csv_tables.specs.Printed.{printed_rows, row_writer}
use Rattle.csv_tables.proofs.write.write_rows.Given as goal

abbrev pub invariant-loop-i : goal.invariant-loop-i
invariant-loop-i l = record {
  setup : writer_setup l.writer ≡ row_writer;
  fields : fields_written l.writer ≡ 0;
  wrote : has_written l.writer ≡ false;
  text : text_written (λ v. Some v.items) l.writer ≡ Some (printed_rows l.names (take l.i l.bag));
}
