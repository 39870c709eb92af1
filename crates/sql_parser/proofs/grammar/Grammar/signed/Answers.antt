use Rattle.std.proofs.Common.{arith}
use Rattle.std.proofs.lemmas.Grind.{common_steps}
use Rattle.sql_parser.proofs.grammar.Grammar.signed.Goals as goal

pub returns : goal.returns
returns c = grind (arith, common_steps)

pub returns-in_err-operand : goal.returns-in_err-operand
returns-in_err-operand c = grind (arith, common_steps)
