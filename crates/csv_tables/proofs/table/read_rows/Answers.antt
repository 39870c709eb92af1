use Rattle.std.proofs.Common.{[], ap, sym, ◌∙◌}
use Rattle.sql_catalog.specs.declared.descriptor.TableDescriptor.{TableDescriptor}
use Rattle.csv_tables.specs.Tables.{rows_after}
use Rattle.csv_tables.proofs.KeysOnce.{rows-once}
use Rattle.csv_tables.proofs.table.read_rows.Goals as goal

pub returns-then-not-branch : goal.returns-then-not-branch
returns-then-not-branch c = rw c.if-not-branch.true at c.in_ok-takes_header.ensures

pub returns : goal.returns
returns c =
    let same = rw c.if-not-branch.false at c.in_ok-takes_header.ensures in
    let once = rows-once c.args.table [] c.takes_header.new.records in
    rw (same ∙ sym once ∙ ap (λ (t : TableDescriptor). rows_after t [] c.takes_header.new.records) (sym c.in_ok-table.ensures)) c.rows.ensures
