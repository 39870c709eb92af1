use Rattle.std.proofs.Common.{arith}
use Rattle.std.proofs.lemmas.Grind.{common_steps}
use Rattle.sql_names.proofs.tables.with_condition.Goals as goal

pub returns-clause-on : goal.returns-clause-on
returns-clause-on c = grind (arith, common_steps)
