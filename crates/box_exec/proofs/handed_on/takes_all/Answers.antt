use Rattle.std.proofs.Common.{arith}
use Rattle.std.proofs.lemmas.Grind.{common_steps}
use Rattle.box_exec.proofs.handed_on.takes_all.Goals as goal

pub returns-in-Base-3-clause-unfiltered : goal.returns-in-Base-3-clause-unfiltered
returns-in-Base-3-clause-unfiltered c = grind (arith, common_steps)

pub returns-in-Base-clause-unfiltered : goal.returns-in-Base-clause-unfiltered
returns-in-Base-clause-unfiltered c = grind (arith, common_steps)

pub returns-in-Base-2-clause-unfiltered : goal.returns-in-Base-2-clause-unfiltered
returns-in-Base-2-clause-unfiltered c = grind (arith, common_steps)

pub returns-else-not-is_enforce-clause-unfiltered : goal.returns-else-not-is_enforce-clause-unfiltered
returns-else-not-is_enforce-clause-unfiltered c = grind (arith, common_steps)

pub returns-in-Base-4-clause-unfiltered : goal.returns-in-Base-4-clause-unfiltered
returns-in-Base-4-clause-unfiltered c = grind (arith, common_steps)

pub returns-then-not-is_enforce-clause-unfiltered : goal.returns-then-not-is_enforce-clause-unfiltered
returns-then-not-is_enforce-clause-unfiltered c = grind (arith, common_steps)
