use Rattle.std.proofs.Common.{arith}
use Rattle.std.proofs.lemmas.Grind.{common_steps}
use Rattle.sql_names.proofs.tables.push_table.Goals as goal

pub returns-clause-scope : goal.returns-clause-scope
returns-clause-scope c = grind (arith, common_steps)

pub returns-clause-from : goal.returns-clause-from
returns-clause-from c = grind (arith, common_steps)
