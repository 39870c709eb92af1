use Rattle.std.proofs.Common.{arith}
use Rattle.std.proofs.lemmas.Grind.{common_steps}
use Rattle.sql_parser.proofs.grammar.Grammar.bracket.Goals as goal

pub returns-in_default : goal.returns-in_default
returns-in_default c = grind (arith, common_steps)

pub returns-in_ok-inner-in-Some-LeftParen-default : goal.returns-in_ok-inner-in-Some-LeftParen-default
returns-in_ok-inner-in-Some-LeftParen-default c = grind (arith, common_steps)

pub returns-in_err-inner-in-Some-LeftParen-default : goal.returns-in_err-inner-in-Some-LeftParen-default
returns-in_err-inner-in-Some-LeftParen-default c = grind (arith, common_steps)

pub nested_cond-requires : goal.nested_cond-requires
nested_cond-requires c = grind (arith, common_steps)
