use Rattle.std.proofs.Common.{arith}
use Rattle.std.proofs.lemmas.Grind.{common_steps}
use Rattle.qgm_terms.proofs.parts.Conds.reserve.Goals as goal

pub returns-then-self-n-clause-ok : goal.returns-then-self-n-clause-ok
returns-then-self-n-clause-ok c = grind (arith, common_steps)

pub returns-else-self-n-clause-ok : goal.returns-else-self-n-clause-ok
returns-else-self-n-clause-ok c = grind (arith, common_steps)

pub invariant_of-self-else-self-n : goal.invariant_of-self-else-self-n
invariant_of-self-else-self-n c = grind (arith, common_steps)

pub returns-else-self-n-clause-items : goal.returns-else-self-n-clause-items
returns-else-self-n-clause-items c = grind (arith, common_steps)

pub invariant_of-self : goal.invariant_of-self
invariant_of-self c = grind (arith, common_steps)

pub returns-then-self-n-clause-items : goal.returns-then-self-n-clause-items
returns-then-self-n-clause-items c = grind (arith, common_steps)

pub invariant_of-self-then-self-n : goal.invariant_of-self-then-self-n
invariant_of-self-then-self-n c = grind (arith, common_steps)
