use Rattle.std.proofs.Common.{arith}
use Rattle.std.proofs.lemmas.Grind.{common_steps}
use Rattle.sql_parser.proofs.grammar.Grammar.negatable.Goals as goal

pub returns-in-Some-Key-Between-default : goal.returns-in-Some-Key-Between-default
returns-in-Some-Key-Between-default c = grind (arith, common_steps)

pub returns-in_ok-pattern-in-Some-Key-Like-default : goal.returns-in_ok-pattern-in-Some-Key-Like-default
returns-in_ok-pattern-in-Some-Key-Like-default c = grind (arith, common_steps)

pub returns-in-Some-Key-In-default : goal.returns-in-Some-Key-In-default
returns-in-Some-Key-In-default c = grind (arith, common_steps)
