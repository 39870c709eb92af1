use Rattle.qgm_wellformed.proofs.Rounds.{added-goes}
use Rattle.qgm_wellformed.proofs.laws.compact_laws.Goals as goal

pub returns : goal.returns
returns c = added-goes
