use Rattle.std.proofs.Common.{arith}
use Rattle.std.proofs.lemmas.Grind.{common_steps}
use Rattle.rule_merge.specs.DropCopyExact.{drop_copy_given}
use Rattle.rule_merge.proofs.drop_copy.DropCopyRule.apply.Goals as goal

pub dropped-requires-clause-given : goal.dropped-requires-clause-given
dropped-requires-clause-given c = grind (arith, common_steps, drop_copy_given)
