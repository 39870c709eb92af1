use Rattle.std.proofs.Common.{arith}
use Rattle.std.proofs.lemmas.Grind.{common_steps}
use Rattle.csv_tables.proofs.key_cells.KeyCellHash.hash.Goals as goal

pub returns-in-Text : goal.returns-in-Text
returns-in-Text g c = grind (arith, common_steps)
