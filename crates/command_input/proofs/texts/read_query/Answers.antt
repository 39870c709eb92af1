use Rattle.std.proofs.Common.{arith}
use Rattle.std.proofs.lemmas.Grind.{common_steps}
use Rattle.command_input.proofs.texts.read_query.Goals as goal

pub checked-requires-clause-grammar : goal.checked-requires-clause-grammar
checked-requires-clause-grammar c = grind (arith, common_steps)

pub returns-clause-checked : goal.returns-clause-checked
returns-clause-checked c = grind (arith, common_steps)
