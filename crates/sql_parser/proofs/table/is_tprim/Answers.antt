use Rattle.std.proofs.Common.{arith}
use Rattle.std.proofs.lemmas.Grind.{common_steps}
use Rattle.sql_parser.proofs.table.is_tprim.Goals as goal

pub returns-in-Named-3 : goal.returns-in-Named-3
returns-in-Named-3 c = grind (arith, common_steps)

pub returns-in-Named : goal.returns-in-Named
returns-in-Named c = grind (arith, common_steps)

pub returns-in-Join-2 : goal.returns-in-Join-2
returns-in-Join-2 c = grind (arith, common_steps)
