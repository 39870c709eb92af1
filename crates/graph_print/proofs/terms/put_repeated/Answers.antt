use Rattle.std.proofs.Common.{arith}
use Rattle.std.proofs.lemmas.Grind.{common_steps}
use Rattle.graph_print.proofs.terms.put_repeated.Goals as goal

pub loop-again-preserved : goal.loop-again-preserved
loop-again-preserved c = grind (arith, common_steps)
