use Rattle.std.proofs.Common.{arith}
use Rattle.std.proofs.lemmas.Grind.{common_steps}
use Rattle.row_bag.proofs.Products.{or_else_steps}
use Rattle.row_bag.proofs.joins.or_with_nulls.Goals as goal

pub returns-then-any_there : goal.returns-then-any_there
returns-then-any_there c = grind (arith, common_steps, or_else_steps)

pub returns : goal.returns
returns c = grind (arith, common_steps, or_else_steps)
