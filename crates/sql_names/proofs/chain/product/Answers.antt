use Rattle.std.proofs.Common.{arith}
use Rattle.std.proofs.lemmas.Grind.{common_steps}
use Rattle.sql_names.proofs.chain.product.Goals as goal

pub returns-else-multiplies : goal.returns-else-multiplies
returns-else-multiplies c = grind (arith, common_steps)

pub returns-then-multiplies : goal.returns-then-multiplies
returns-then-multiplies c = grind (arith, common_steps)

pub longer_product-requires : goal.longer_product-requires
longer_product-requires c = grind (arith, common_steps)

pub first_product-requires : goal.first_product-requires
first_product-requires c = grind (arith, common_steps)
