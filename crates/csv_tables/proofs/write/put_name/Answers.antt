use Rattle.std.proofs.Common.{arith}
use Rattle.std.proofs.lemmas.Grind.{common_steps}
use Rattle.csv_tables.proofs.write.put_name.Goals as goal

pub returns-in_ok-text-in-Some-clause-fields : goal.returns-in_ok-text-in-Some-clause-fields
returns-in_ok-text-in-Some-clause-fields c = grind (arith, common_steps)

pub returns-in-Ok-clause-fields : goal.returns-in-Ok-clause-fields
returns-in-Ok-clause-fields c = grind (arith, common_steps)
