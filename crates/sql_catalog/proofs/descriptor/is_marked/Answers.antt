use Rattle.std.proofs.Common.{arith}
use Rattle.std.proofs.lemmas.Grind.{common_steps}
use Rattle.sql_catalog.proofs.descriptor.is_marked.Goals as goal

pub returns-in-NotNull : goal.returns-in-NotNull
returns-in-NotNull c = grind (arith, common_steps)
