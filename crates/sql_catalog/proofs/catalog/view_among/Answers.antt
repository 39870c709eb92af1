use Rattle.std.proofs.Common.{arith}
use Rattle.std.proofs.lemmas.Grind.{common_steps}
use Rattle.sql_catalog.proofs.catalog.view_among.Goals as goal

pub find-requires-clause-callable : goal.find-requires-clause-callable
find-requires-clause-callable c = grind (arith, common_steps)

pub find-requires-clause-finite : goal.find-requires-clause-finite
find-requires-clause-finite c = grind (arith, common_steps)

pub find-requires-clause-can : goal.find-requires-clause-can
find-requires-clause-can c = grind (arith, common_steps)
