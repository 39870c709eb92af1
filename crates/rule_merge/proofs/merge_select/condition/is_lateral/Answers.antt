use Rattle.std.proofs.Common.{arith}
use Rattle.std.proofs.lemmas.Grind.{common_steps}
use Rattle.rule_merge.proofs.MergeSelectBases.{base_apart}
use Rattle.rule_merge.proofs.merge_select.condition.is_lateral.Goals as goal

pub returns-then-not-is_f : goal.returns-then-not-is_f
returns-then-not-is_f c = grind (arith, common_steps, base_apart)
