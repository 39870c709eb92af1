use Rattle.std.proofs.Common.{arith}
use Rattle.std.proofs.lemmas.Grind.{common_steps}
use Rattle.sql_parser.proofs.grammar.Grammar.searched.Goals as goal

pub otherwise-requires : goal.otherwise-requires
otherwise-requires c = grind (arith, common_steps)
