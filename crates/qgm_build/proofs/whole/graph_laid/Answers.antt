use Rattle.std.proofs.Common.{arith}
use Rattle.std.proofs.lemmas.Grind.{common_steps}
use Rattle.qgm_build.proofs.whole.graph_laid.Goals as goal

pub returns : goal.returns
returns c = grind (arith, common_steps)

pub of_boxes-requires-clause-under : goal.of_boxes-requires-clause-under
of_boxes-requires-clause-under c = grind (arith, common_steps)

pub of_boxes-requires-clause-once : goal.of_boxes-requires-clause-once
of_boxes-requires-clause-once c = grind (arith, common_steps)
