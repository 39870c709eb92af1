use Rattle.std.proofs.lemmas.Grind.{common_steps}
use Rattle.std.proofs.Common.{rules, ◌≡◌, ◌≢◌, ◌∙◌, ap, false, map, take, arith}
use Rattle.std.specs.Result.{is_err}
use Rattle.std.proofs.lemmas.List.{take_more}
use Rattle.std.proofs.lemmas.Option.{slice_get_within}
use Rattle.row_bag.specs.RowRefs.{lent}
use Rattle.row_bag.proofs.Places.{read-at}
use Rattle.csv.specs.Writing.{writer_setup}
use Rattle.csv.specs.declared.writer.QuoteStyle.TheVariants as style
use Rattle.csv.proofs.ReadFacts.{on-ok}
use Rattle.csv_tables.specs.Cells.{cell_text}
use Rattle.csv_tables.proofs.Printed.{text-more}
use Rattle.csv_tables.proofs.write.write_rows.Goals as goal

pub loop-i-preserved : goal.loop-i-preserved
loop-i-preserved c =
    let inv = c.loop-i.invariant in
    let low = slice_get_within c.args.bag.now c.loop-i.i (lent c.at.result) c.at.ensures in
    let good : is_err c.write_byte_record-in-loop-i.result ≡ false = search rules in
    let r = c.write_byte_record-in-loop-i.result in
    let e = c.write_byte_record-in-loop-i.ensures in
    let plain : (writer_setup c.loop-i.writer).style ≢ style.NonNumeric = rw inv.setup (λ h. cc h) in
    let bytes = on-ok r good e.bytes inv.fields inv.wrote plain in
    record {
      setup = on-ok r good e.setup ∙ inv.setup;
      fields = on-ok r good e.ended;
      wrote = on-ok r good e.clean;
      text = rw (take_more c.args.bag.now c.loop-i.i (lent c.at.result) low, ← read-at c.args.bag.now c.loop-i.i (lent c.at.result) c.at.ensures)
          (text-more _ _ c.args.names.now (take c.loop-i.i c.args.bag.now) _ _ inv.text c.in_ok-put_cells.ensures (rw inv.setup at bytes));
    }

pub returns-in-Ok : goal.returns-in-Ok
returns-in-Ok c = grind (arith, common_steps)
