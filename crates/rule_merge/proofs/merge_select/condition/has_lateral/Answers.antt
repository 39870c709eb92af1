use Rattle.std.proofs.Common.{arith}
use Rattle.std.proofs.lemmas.Grind.{common_steps}
use Rattle.rule_merge.proofs.MergeSelectAlone.{alone_apart}
use Rattle.rule_merge.proofs.merge_select.condition.has_lateral.Goals as goal

pub returns-then-as_slice-le1 : goal.returns-then-as_slice-le1
returns-then-as_slice-le1 c = grind (arith, common_steps, alone_apart)

pub returns-then-branch : goal.returns-then-branch
returns-then-branch c = grind (arith, common_steps)

pub loop-s-preserved : goal.loop-s-preserved
loop-s-preserved c = grind (arith, common_steps)
