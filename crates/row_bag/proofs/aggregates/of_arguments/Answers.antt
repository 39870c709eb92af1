use Rattle.std.proofs.Common.{arith}
use Rattle.std.proofs.lemmas.Grind.{common_steps}
use Rattle.row_bag.proofs.aggregates.of_arguments.Goals as goal

pub returns-in_ok-rows-in-Min : goal.returns-in_ok-rows-in-Min
returns-in_ok-rows-in-Min c = grind (arith, common_steps)

pub returns-in_ok-rows-in-Max : goal.returns-in_ok-rows-in-Max
returns-in_ok-rows-in-Max c = grind (arith, common_steps)

pub returns-in-Single : goal.returns-in-Single
returns-in-Single c = grind (arith, common_steps)

pub mean-requires : goal.mean-requires
mean-requires c = grind (arith, common_steps)
