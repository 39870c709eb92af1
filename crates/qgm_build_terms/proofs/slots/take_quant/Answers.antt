use Rattle.std.proofs.Common.{arith}
use Rattle.std.proofs.lemmas.Grind.{common_steps}
use Rattle.qgm_build_terms.proofs.slots.take_quant.Goals as goal

pub returns-in-None-clause-quant : goal.returns-in-None-clause-quant
returns-in-None-clause-quant c = grind (arith, common_steps)

pub returns-in-None-clause-rest : goal.returns-in-None-clause-rest
returns-in-None-clause-rest c = grind (arith, common_steps)
