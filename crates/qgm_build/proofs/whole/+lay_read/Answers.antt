use Rattle.std.proofs.Common.{arith}
use Rattle.std.proofs.lemmas.Grind.{common_steps}
use Rattle.qgm_build.proofs.whole.+lay_read.Goals as goal

pub lay_read-requires : goal.lay_read-requires
lay_read-requires t c = grind (arith, common_steps)

pub loop-view-init : goal.loop-view-init
loop-view-init t c = grind (arith, common_steps)

pub loop-view-smaller : goal.loop-view-smaller
loop-view-smaller t c = grind (arith, common_steps)

pub overflow_sub-depth : goal.overflow_sub-depth
overflow_sub-depth t c = grind (arith, common_steps)

pub returns-then-depth-eq0 : goal.returns-then-depth-eq0
returns-then-depth-eq0 t c = grind (arith, common_steps)

pub loop-view-preserved : goal.loop-view-preserved
loop-view-preserved t c = grind (arith, common_steps)

pub lay_view-requires : goal.lay_view-requires
lay_view-requires t c = grind (arith, common_steps)

pub returns : goal.returns
returns t c = grind (arith, common_steps)
