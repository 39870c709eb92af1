use Rattle.std.proofs.Common.{arith}
use Rattle.std.proofs.lemmas.Grind.{common_steps}
use Rattle.rule_merge.proofs.MergeSelectUnnamed.{unnamed_apart}
use Rattle.rule_merge.proofs.merge_select.condition.is_unnamed.Goals as goal

pub returns-in-Some : goal.returns-in-Some
returns-in-Some c = grind (arith, common_steps, unnamed_apart)
