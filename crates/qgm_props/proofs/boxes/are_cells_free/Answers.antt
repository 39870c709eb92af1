use Rattle.std.proofs.Common.{arith}
use Rattle.std.proofs.lemmas.Grind.{common_steps}
use Rattle.qgm_props.proofs.boxes.are_cells_free.Goals as goal

pub returns : goal.returns
returns c = grind (arith, common_steps)

pub loop-x-preserved : goal.loop-x-preserved
loop-x-preserved c = grind (arith, common_steps)

pub returns-then-not-is_free : goal.returns-then-not-is_free
returns-then-not-is_free c = grind (arith, common_steps)
