use Rattle.csv_tables.proofs.Printed.{header-all, header-more}
use Rattle.csv_tables.proofs.write.put_names.Goals as goal

pub loop-i-preserved : goal.loop-i-preserved
loop-i-preserved c =
    (header-more c.as_slice-names.result.now c.loop-i.i c.index-names-i.result c.index-names-i.result _ _ _ _ c.loop-i-test.true c.index-names-i.is c.loop-i.invariant.1 c.loop-i.invariant.0 c.in_ok-put_name.ensures.fields, c.in_ok-put_name.ensures.whole)

pub returns : goal.returns
returns c = rw c.as_slice-names.ensures at (header-all c.as_slice-names.result.now c.loop-i.i _ _ c.loop-i-test.false c.loop-i.invariant.0)
