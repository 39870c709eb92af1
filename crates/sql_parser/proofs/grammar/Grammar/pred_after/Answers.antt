use Rattle.std.proofs.Common.{arith}
use Rattle.std.proofs.lemmas.Grind.{common_steps}
use Rattle.sql_parser.proofs.grammar.Grammar.pred_after.Goals as goal

pub returns-in-Some-Compare-default : goal.returns-in-Some-Compare-default
returns-in-Some-Compare-default c = grind (arith, common_steps)
