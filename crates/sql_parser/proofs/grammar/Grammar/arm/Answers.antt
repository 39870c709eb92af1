use Rattle.std.proofs.Common.{arith}
use Rattle.std.proofs.lemmas.Grind.{common_steps}
use Rattle.sql_parser.proofs.grammar.Grammar.arm.Goals as goal

pub then_arm-requires : goal.then_arm-requires
then_arm-requires c = grind (arith, common_steps)

pub returns : goal.returns
returns c = grind (arith, common_steps)

pub nested_cond-requires : goal.nested_cond-requires
nested_cond-requires c = grind (arith, common_steps)
