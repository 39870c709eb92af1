use Rattle.std.proofs.Common.{arith}
use Rattle.std.proofs.lemmas.Grind.{common_steps}
use Rattle.qgm_build_terms.proofs.store.number.Goals as goal

pub returns-clause-store : goal.returns-clause-store
returns-clause-store c = grind (arith, common_steps)
