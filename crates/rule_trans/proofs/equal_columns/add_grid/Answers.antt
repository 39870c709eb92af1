use Rattle.std.proofs.Common.{arith}
use Rattle.std.proofs.lemmas.Grind.{common_steps}
use Rattle.rule_trans.proofs.JointRows.{grid_more}
use Rattle.rule_trans.proofs.equal_columns.add_grid.Goals as goal

pub loop-i-preserved : goal.loop-i-preserved
loop-i-preserved c = grind (arith, common_steps, grid_more)
