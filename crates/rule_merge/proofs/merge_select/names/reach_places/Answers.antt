use Rattle.std.proofs.Common.{arith}
use Rattle.std.proofs.lemmas.Grind.{common_steps}
use Rattle.rule_merge.proofs.MergeSelectNames.{pushed-same}
use Rattle.rule_merge.proofs.merge_select.names.reach_places.Goals as goal

pub loop-alloc-preserved : goal.loop-alloc-preserved
loop-alloc-preserved c = λ r. grind (arith, common_steps, pushed-same, c.loop-alloc.invariant r)
