use Rattle.std.proofs.Common.{arith}
use Rattle.std.proofs.lemmas.Grind.{common_steps}
use Rattle.sql_names.proofs.views.resolved_views.Goals as goal

pub loop-view-preserved : goal.loop-view-preserved
loop-view-preserved c = grind (arith, common_steps)

pub returns-clause-ranges : goal.returns-clause-ranges
returns-clause-ranges c = grind (arith, common_steps)

pub returns-clause-views : goal.returns-clause-views
returns-clause-views c = grind (arith, common_steps)

pub offset_bounds-views-view-index : goal.offset_bounds-views-view-index
offset_bounds-views-view-index c = grind (arith, common_steps)

pub loop-view-init : goal.loop-view-init
loop-view-init c = grind (arith, common_steps)
