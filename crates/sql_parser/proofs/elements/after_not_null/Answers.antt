use Rattle.std.proofs.Common.{arith}
use Rattle.std.proofs.lemmas.Grind.{common_steps}
use Rattle.sql_parser.proofs.elements.after_not_null.Goals as goal

pub returns-in-Key-clause-found : goal.returns-in-Key-clause-found
returns-in-Key-clause-found c = grind (arith, common_steps)
