use Rattle.std.proofs.Common.{arith}
use Rattle.std.proofs.lemmas.Grind.{common_steps}
use Rattle.sql_names.proofs.views.resolved_view.Goals as goal

pub returns-clause-range : goal.returns-clause-range
returns-clause-range c = grind (arith, common_steps)

pub returns-clause-view : goal.returns-clause-view
returns-clause-view c = grind (arith, common_steps)
