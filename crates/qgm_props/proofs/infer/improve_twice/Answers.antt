use Rattle.std.proofs.Common.{arith}
use Rattle.std.proofs.lemmas.Grind.{common_steps}
use Rattle.qgm_props.proofs.infer.improve_twice.Goals as goal

pub returns-clause-less : goal.returns-clause-less
returns-clause-less c = grind (arith, common_steps)

pub returns-then-not-branch-clause-less : goal.returns-then-not-branch-clause-less
returns-then-not-branch-clause-less c = grind (arith, common_steps)
