use Rattle.std.proofs.Common.{arith}
use Rattle.std.proofs.lemmas.Grind.{common_steps}
use Rattle.csv_tables.proofs.loading.table_from.Goals as goal

pub returns-in-Err-Broken : goal.returns-in-Err-Broken
returns-in-Err-Broken c = grind (arith, common_steps)
