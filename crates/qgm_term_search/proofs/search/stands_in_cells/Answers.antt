use Rattle.std.proofs.Common.{arith}
use Rattle.std.proofs.lemmas.Grind.{common_steps}
use Rattle.qgm_term_search.proofs.search.stands_in_cells.Goals as goal

pub loop-x-preserved : goal.loop-x-preserved
loop-x-preserved c = grind (arith, common_steps)

pub returns-then-stands_in : goal.returns-then-stands_in
returns-then-stands_in c = grind (arith, common_steps)

pub returns : goal.returns
returns c = grind (arith, common_steps)
