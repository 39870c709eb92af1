use Rattle.std.proofs.Common.{arith}
use Rattle.std.proofs.lemmas.Grind.{common_steps}
use Rattle.qgm_run.proofs.answers.run_rewritten.Goals as goal

pub returns-clause-counted : goal.returns-clause-counted
returns-clause-counted g c = grind (arith, common_steps)

pub returns-clause-rewritten : goal.returns-clause-rewritten
returns-clause-rewritten g c = grind (arith, common_steps)

pub returns-clause-never_less : goal.returns-clause-never_less
returns-clause-never_less g c = grind (arith, common_steps)
