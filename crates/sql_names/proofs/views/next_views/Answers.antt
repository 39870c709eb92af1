use Rattle.std.proofs.Common.{arith}
use Rattle.std.proofs.lemmas.Grind.{common_steps}
use Rattle.sql_names.proofs.views.next_views.Goals as goal

pub returns-clause-ranges : goal.returns-clause-ranges
returns-clause-ranges c = grind (arith, common_steps)

pub returns-clause-views : goal.returns-clause-views
returns-clause-views c = grind (arith, common_steps)
