use Rattle.std.proofs.Common.{arith}
use Rattle.std.proofs.lemmas.Grind.{common_steps}
use Rattle.rule_merge.proofs.merge_select.action.terms_for.Goals as goal

pub returns : goal.returns
returns c = grind (arith, common_steps)
