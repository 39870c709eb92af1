use Rattle.std.proofs.Common.{arith}
use Rattle.std.proofs.lemmas.Grind.{common_steps}
use Rattle.rule_merge.proofs.merge_select.condition.may_over.Goals as goal

pub may_with-requires-clause-under : goal.may_with-requires-clause-under
may_with-requires-clause-under c = grind (arith, common_steps)
