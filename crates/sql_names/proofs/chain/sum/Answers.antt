use Rattle.std.proofs.Common.{arith}
use Rattle.std.proofs.lemmas.Grind.{common_steps}
use Rattle.sql_names.proofs.chain.sum.Goals as goal

pub returns-else-sums : goal.returns-else-sums
returns-else-sums c = grind (arith, common_steps)

pub returns-then-sums : goal.returns-then-sums
returns-then-sums c = grind (arith, common_steps)

pub longer_sum-requires : goal.longer_sum-requires
longer_sum-requires c = grind (arith, common_steps)

pub first_sum-requires : goal.first_sum-requires
first_sum-requires c = grind (arith, common_steps)
