use Rattle.std.proofs.Common.{rules, ◌≡◌, sym, true}
use Rattle.std.specs.Result.{is_ok}
use Rattle.csv.specs.Records.{fields_of}
use Rattle.csv_tables.proofs.Walks.{contents-all, contents-more, contents-short}
use Rattle.csv_tables.proofs.table.contents.Goals as goal

pub returns-in_default : goal.returns-in_default
returns-in_default c = contents-short c.args.columns.now (fields_of c.args.fields.now) c.loop-i.i c.loop-i.contents.items _ (sym c.in_default.ensures.value) c.loop-i.invariant

pub loop-i-preserved : goal.loop-i-preserved
loop-i-preserved c =
    let good : is_ok c.push.result ≡ true = search rules in
    let items = rw good at c.push.ensures.items in
    rw items (contents-more c.args.columns.now (fields_of c.args.fields.now) c.loop-i.i _ c.in-Some.field.now c.in_ok-content_of.field-0 c.loop-i.contents.items _ c.loop-i-test.true (sym c.in-Some.ensures.value) c.in_ok-content_of.ensures c.loop-i.invariant)

pub returns : goal.returns
returns c = contents-all c.args.columns.now (fields_of c.args.fields.now) c.loop-i.i c.loop-i.contents.items _ c.loop-i-test.false c.loop-i.invariant
