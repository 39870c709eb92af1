use Rattle.std.proofs.Common.{arith}
use Rattle.std.proofs.lemmas.Grind.{common_steps}
use Rattle.rule_merge.proofs.merge_select.lookups.lookups_of.Goals as goal

pub returns-clause-lookups : goal.returns-clause-lookups
returns-clause-lookups c = grind (arith, common_steps)
