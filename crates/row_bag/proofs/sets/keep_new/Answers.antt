use Rattle.std.proofs.Common.{arith}
use Rattle.std.proofs.lemmas.Grind.{common_steps}
use Rattle.row_bag.proofs.sets.keep_new.Goals as goal

pub returns-clause-index : goal.returns-clause-index
returns-clause-index c = grind (arith, common_steps)
