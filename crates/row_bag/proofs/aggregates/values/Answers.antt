use Rattle.std.proofs.Common.{arith}
use Rattle.std.proofs.lemmas.Grind.{common_steps}
use Rattle.row_bag.proofs.Values.{values_bound}
use Rattle.row_bag.proofs.aggregates.values.Goals as goal

pub returns : goal.returns
returns c = grind (arith, common_steps, values_bound)
