use Rattle.std.proofs.Common.{arith}
use Rattle.std.proofs.lemmas.Grind.{common_steps}
use Rattle.graph_print.proofs.text.print.Goals as goal

pub returns : goal.returns
returns c = grind (arith, common_steps)

pub put_boxes-requires : goal.put_boxes-requires
put_boxes-requires c = grind (arith, common_steps)
