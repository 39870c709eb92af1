use Rattle.std.proofs.Common.{arith}
use Rattle.std.proofs.lemmas.Grind.{common_steps}
use Rattle.sql_parser.proofs.grammar.Grammar.having_filter.Goals as goal

pub returns-in_ok-cond-in-Some-Key-Having-default : goal.returns-in_ok-cond-in-Some-Key-Having-default
returns-in_ok-cond-in-Some-Key-Having-default c = grind (arith, common_steps)
