use Rattle.std.proofs.Common.{arith}
use Rattle.std.proofs.lemmas.Grind.{common_steps}
use Rattle.sql_parser.proofs.grammar.Grammar.item.Goals as goal

pub returns-in_ok-alias-in-None : goal.returns-in_ok-alias-in-None
returns-in_ok-alias-in-None c = grind (arith, common_steps)

pub returns-in_ok-name-in-Some : goal.returns-in_ok-name-in-Some
returns-in_ok-name-in-Some c = grind (arith, common_steps)
