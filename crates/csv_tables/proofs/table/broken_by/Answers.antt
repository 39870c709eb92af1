use Rattle.std.proofs.Common.{arith}
use Rattle.std.proofs.lemmas.Grind.{common_steps}
use Rattle.csv_tables.proofs.table.broken_by.Goals as goal

pub returns-else-len-ge-MAX_ROWS-clause-after : goal.returns-else-len-ge-MAX_ROWS-clause-after
returns-else-len-ge-MAX_ROWS-clause-after c = grind (arith, common_steps)
