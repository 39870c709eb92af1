use Rattle.std.proofs.Common.{arith}
use Rattle.std.proofs.lemmas.Grind.{common_steps}
use Rattle.sql_faults.proofs.depth.refused_marked.Goals as goal

pub bounds-deep-0 : goal.bounds-deep-0
bounds-deep-0 c = grind (arith, common_steps)

pub loop-view-preserved : goal.loop-view-preserved
loop-view-preserved c = grind (arith, common_steps)

pub returns : goal.returns
returns c = grind (arith, common_steps)

pub returns-in-Some : goal.returns-in-Some
returns-in-Some c = grind (arith, common_steps)

pub returns-in_default : goal.returns-in_default
returns-in_default c = grind (arith, common_steps)

pub slice_bounds-others-count : goal.slice_bounds-others-count
slice_bounds-others-count c = grind (arith, common_steps)

pub slice_bounds-others_deeper-count : goal.slice_bounds-others_deeper-count
slice_bounds-others_deeper-count c = grind (arith, common_steps)

pub slice_bounds-others-start : goal.slice_bounds-others-start
slice_bounds-others-start c = grind (arith, common_steps)

pub slice_bounds-others_deeper-start : goal.slice_bounds-others_deeper-start
slice_bounds-others_deeper-start c = grind (arith, common_steps)

pub offset_bounds-list-view-index : goal.offset_bounds-list-view-index
offset_bounds-list-view-index c = grind (arith, common_steps)

pub bounds-mark-0 : goal.bounds-mark-0
bounds-mark-0 c = grind (arith, common_steps)
