use Rattle.std.proofs.Common.{arith}
use Rattle.std.proofs.lemmas.Grind.{common_steps}
use Rattle.sql_parser.proofs.grammar.Grammar.block_end.Goals as goal

pub returns-in_err-grouping : goal.returns-in_err-grouping
returns-in_err-grouping c = grind (arith, common_steps)

pub returns-in_err-having : goal.returns-in_err-having
returns-in_err-having c = grind (arith, common_steps)
