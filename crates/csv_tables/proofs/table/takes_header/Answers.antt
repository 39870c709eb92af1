use Rattle.std.proofs.Common.{refl}
use Rattle.csv.specs.Records.{fields_of}
use Rattle.csv_tables.proofs.Rows.{header-under}
use Rattle.csv_tables.proofs.table.takes_header.Goals as goal

pub returns-then-not-branch : goal.returns-then-not-branch
returns-then-not-branch c =
    let none = rw c.if-not-branch.true at c.in_ok-next.ensures in
    rw none refl

pub returns : goal.returns
returns c =
    let taken = rw c.if-not-branch.false at c.in_ok-next.ensures in
    header-under c.fits_header.result c.args.table.now _ (fields_of c.next.new.row) c.next.new.self taken (rw c.as_slice.ensures at c.fits_header.ensures)
