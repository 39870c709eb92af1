use Rattle.std.proofs.lemmas.Grind.{common_steps}
use Rattle.std.proofs.Common.{[], ◌∷◌, arith}
use Rattle.csv.specs.Records.{fields_of}
use Rattle.csv_tables.proofs.Checks.{all-checked, row-stays, seen-all}
use Rattle.csv_tables.proofs.Passing.{all-differ}
use Rattle.csv_tables.proofs.Rows.{rows-end, rows-refused}
use Rattle.csv_tables.proofs.table.rows.Goals as goal

pub returns-then-branch : goal.returns-then-branch
returns-then-branch c =
    let differ = rw c.as_slice.ensures at (c.in_ok-keys_differ.ensures c.if-branch.true) in
    let all = rw c.if-not-stopped.true at (c.in_ok-stopped.ensures.rows c.args.table.keys) in
    rows-end c.args.table c.take_rows.new.rows _ (all-checked c.args.table c.take_rows.new.rows [] _ _ (all-differ c.args.table.keys c.take_rows.new.rows differ) all)

pub returns-then-not-stopped-2 : goal.returns-then-not-stopped-2
returns-then-not-stopped-2 c =
    let seen = rw c.as_slice-2.ensures at c.in_ok-seen.ensures.seen in
    let all = rw c.if-not-stopped-2.true at (c.in_ok-stopped.ensures.rows c.args.table.keys) in
    rows-end c.args.table c.take_rows.new.rows _ (all-checked c.args.table c.take_rows.new.rows [] c.in_ok-seen.seen.items _ seen all)

pub row_after-requires-clause-seen : goal.row_after-requires-clause-seen
row_after-requires-clause-seen c =
    let seen = rw c.as_slice-2.ensures at c.in_ok-seen.ensures.seen in
    seen-all c.args.table.keys c.take_rows.new.rows c.in_ok-seen.seen.items seen

pub unreachable-requires : goal.unreachable-requires
unreachable-requires c =
    let stops = c.in_ok-stopped.ensures.stops c.if-not-stopped-2.false in
    let made = c.in-Ok.ensures.row in
    let row = row-stays (record { columns = c.args.table.columns; keys = c.new.result }) c.args.table.keys c.take_rows.new.rows (fields_of c.take_rows.new.fields) c.in-Ok.field-0 c.new.ensures made in
    absurd (cc (rw row at stops))

pub returns : goal.returns
returns c =
    let seen = rw c.as_slice-2.ensures at c.in_ok-seen.ensures.seen in
    let all = rw c.if-not-stopped-2.false at (c.in_ok-stopped.ensures.rows c.args.table.keys) in
    let left = all-checked c.args.table c.take_rows.new.rows (fields_of c.take_rows.new.fields ∷ c.take_rows.new.records) c.in_ok-seen.seen.items _ seen all in
    rows-refused c.args.table c.take_rows.new.rows (fields_of c.take_rows.new.fields) c.take_rows.new.records c.in-Err.refusal _ c.in-Err.ensures.row left

pub same-rows-then-not-stopped-2 : goal.same-rows-then-not-stopped-2
same-rows-then-not-stopped-2 c = grind (arith, common_steps)

pub row_after-requires-clause-few : goal.row_after-requires-clause-few
row_after-requires-clause-few c = grind (arith, common_steps)
