use Rattle.std.proofs.Common.{arith}
use Rattle.std.proofs.lemmas.Grind.{common_steps}
use Rattle.sql_faults.proofs.view.views_over.Goals as goal

pub loop-view-preserved : goal.loop-view-preserved
loop-view-preserved c = grind (arith, common_steps)

pub returns : goal.returns
returns c = grind (arith, common_steps)

pub loop-view-init : goal.loop-view-init
loop-view-init c = grind (arith, common_steps)

pub offset_bounds-views-view-index : goal.offset_bounds-views-view-index
offset_bounds-views-view-index c = grind (arith, common_steps)

pub bounds-views-view-index : goal.bounds-views-view-index
bounds-views-view-index c = grind (arith, common_steps)
