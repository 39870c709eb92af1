use Rattle.std.proofs.Common.{arith}
use Rattle.std.proofs.lemmas.Grind.{common_steps}
use Rattle.sql_parser.proofs.grammar.Grammar.prim.Goals as goal

pub returns-in-Some-Key-default : goal.returns-in-Some-Key-default
returns-in-Some-Key-default c = grind (arith, common_steps)

pub returns-in-Some-Number-default : goal.returns-in-Some-Number-default
returns-in-Some-Number-default c = grind (arith, common_steps)

pub returns-in-Some-Name-default : goal.returns-in-Some-Name-default
returns-in-Some-Name-default c = grind (arith, common_steps)

pub returns-in-Some-Str-default : goal.returns-in-Some-Str-default
returns-in-Some-Str-default c = grind (arith, common_steps)

pub returns-in-Some-LeftParen-default : goal.returns-in-Some-LeftParen-default
returns-in-Some-LeftParen-default c = grind (arith, common_steps)
