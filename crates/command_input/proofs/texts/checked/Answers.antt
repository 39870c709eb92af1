use Rattle.std.proofs.Common.{arith}
use Rattle.std.proofs.lemmas.Grind.{common_steps}
use Rattle.command_input.proofs.texts.checked.Goals as goal

pub returns-in-Ok-clause-gives : goal.returns-in-Ok-clause-gives
returns-in-Ok-clause-gives c = grind (arith, common_steps)

pub returns-in-Err-TypeMismatch-clause-gives : goal.returns-in-Err-TypeMismatch-clause-gives
returns-in-Err-TypeMismatch-clause-gives c = grind (arith, common_steps)

pub returns-in-Err-Ambiguous-clause-gives : goal.returns-in-Err-Ambiguous-clause-gives
returns-in-Err-Ambiguous-clause-gives c = grind (arith, common_steps)

pub returns-in-Err-DuplicateRange-clause-gives : goal.returns-in-Err-DuplicateRange-clause-gives
returns-in-Err-DuplicateRange-clause-gives c = grind (arith, common_steps)

pub returns-in-Err-Degree-clause-gives : goal.returns-in-Err-Degree-clause-gives
returns-in-Err-Degree-clause-gives c = grind (arith, common_steps)

pub returns-in-Err-UnknownTable-clause-gives : goal.returns-in-Err-UnknownTable-clause-gives
returns-in-Err-UnknownTable-clause-gives c = grind (arith, common_steps)

pub returns-in-Err-UnknownColumn-clause-gives : goal.returns-in-Err-UnknownColumn-clause-gives
returns-in-Err-UnknownColumn-clause-gives c = grind (arith, common_steps)

pub returns-in-Err-AggregatePlace-clause-gives : goal.returns-in-Err-AggregatePlace-clause-gives
returns-in-Err-AggregatePlace-clause-gives c = grind (arith, common_steps)

pub returns-in-Err-Grouping-clause-gives : goal.returns-in-Err-Grouping-clause-gives
returns-in-Err-Grouping-clause-gives c = grind (arith, common_steps)

pub returns-in-Err-OrderColumn-clause-gives : goal.returns-in-Err-OrderColumn-clause-gives
returns-in-Err-OrderColumn-clause-gives c = grind (arith, common_steps)
