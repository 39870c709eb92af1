use Rattle.std.proofs.Common.{arith}
use Rattle.std.proofs.lemmas.Grind.{common_steps}
use Rattle.csv_tables.proofs.write.put_cell.Goals as goal

pub returns-in-Int-clause-fields : goal.returns-in-Int-clause-fields
returns-in-Int-clause-fields c = grind (arith, common_steps)
