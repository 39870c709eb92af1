use Rattle.std.proofs.Common.{arith}
use Rattle.std.proofs.lemmas.Grind.{common_steps}
use Rattle.command_input.proofs.texts.query_spelled.Goals as goal

pub returns-in-Err-Memory-clause-gives : goal.returns-in-Err-Memory-clause-gives
returns-in-Err-Memory-clause-gives c = grind (arith, common_steps)

pub returns-in-Ok-clause-gives : goal.returns-in-Ok-clause-gives
returns-in-Ok-clause-gives c = grind (arith, common_steps)

pub returns-in-Err-Syntax-clause-grammar : goal.returns-in-Err-Syntax-clause-grammar
returns-in-Err-Syntax-clause-grammar c = grind (arith, common_steps)

pub returns-in-Err-Memory-clause-grammar : goal.returns-in-Err-Memory-clause-grammar
returns-in-Err-Memory-clause-grammar c = grind (arith, common_steps)

pub returns-in-Err-Syntax-clause-gives : goal.returns-in-Err-Syntax-clause-gives
returns-in-Err-Syntax-clause-gives c = grind (arith, common_steps)

pub returns-in-Ok-clause-grammar : goal.returns-in-Ok-clause-grammar
returns-in-Ok-clause-grammar c = grind (arith, common_steps)

pub returns-in-Err-OverLimit-clause-grammar : goal.returns-in-Err-OverLimit-clause-grammar
returns-in-Err-OverLimit-clause-grammar c = grind (arith, common_steps)

pub returns-in-Err-OverLimit-clause-gives : goal.returns-in-Err-OverLimit-clause-gives
returns-in-Err-OverLimit-clause-gives c = grind (arith, common_steps)
