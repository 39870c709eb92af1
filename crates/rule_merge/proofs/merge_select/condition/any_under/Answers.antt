use Rattle.std.proofs.Common.{arith}
use Rattle.std.proofs.lemmas.Grind.{common_steps}
use Rattle.rule_merge.proofs.merge_select.condition.any_under.Goals as goal

pub returns : goal.returns
returns c = grind (arith, common_steps)

pub loop-r-preserved : goal.loop-r-preserved
loop-r-preserved c = grind (arith, common_steps)

pub returns-then-over_select : goal.returns-then-over_select
returns-then-over_select c = grind (arith, common_steps)
