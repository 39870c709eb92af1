use Rattle.std.proofs.Common.{arith}
use Rattle.std.proofs.lemmas.Grind.{common_steps}
use Rattle.sql_parser.proofs.grammar.Grammar.factor.Goals as goal

pub returns-in-Some-Minus-default : goal.returns-in-Some-Minus-default
returns-in-Some-Minus-default c = grind (arith, common_steps)

pub returns-in-Some-Plus-default : goal.returns-in-Some-Plus-default
returns-in-Some-Plus-default c = grind (arith, common_steps)
