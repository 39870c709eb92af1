use Rattle.std.proofs.Common.{arith}
use Rattle.std.proofs.lemmas.Grind.{common_steps}
use Rattle.row_bag.specs.RowRefs.{lent}
use Rattle.row_bag.proofs.Places.{from-place}
use Rattle.box_exec.proofs.grouping.level_error.Goals as goal

pub loop-i-preserved : goal.loop-i-preserved
loop-i-preserved c = grind (arith, common_steps, from-place c.args.rows.now c.loop-i.i (lent c.at.result) c.at.ensures)
