use Rattle.std.proofs.Common.{arith}
use Rattle.std.proofs.lemmas.Grind.{common_steps}
use Rattle.csv_tables.proofs.SeenSteps.{null-all}
use Rattle.csv_tables.proofs.table.has_refused_null.Goals as goal

pub returns : goal.returns
returns c = null-all c.args.columns.now c.args.contents.now c.loop-i.i _ (rw c.min-i-end.ensures at c.loop-i-test.false) c.loop-i.invariant

pub returns-then-is_refused_null : goal.returns-then-is_refused_null
returns-then-is_refused_null c = grind (arith, common_steps)

pub loop-i-preserved : goal.loop-i-preserved
loop-i-preserved c = grind (arith, common_steps)
