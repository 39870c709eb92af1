use Rattle.std.proofs.Common.{arith}
use Rattle.std.proofs.lemmas.Grind.{common_steps}
use Rattle.sql_parser.proofs.grammar.Grammar.compared.Goals as goal

pub returns-in_ok-right-in-None : goal.returns-in_ok-right-in-None
returns-in_ok-right-in-None c = grind (arith, common_steps)

pub returns-in-Some : goal.returns-in-Some
returns-in-Some c = grind (arith, common_steps)
