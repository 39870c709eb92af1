use Rattle.std.proofs.Common.{arith}
use Rattle.std.proofs.lemmas.Grind.{common_steps}
use Rattle.csv_tables.proofs.content.unescaped.Goals as goal

pub returns-then-begins_escaped : goal.returns-then-begins_escaped
returns-then-begins_escaped c = grind (arith, common_steps)
