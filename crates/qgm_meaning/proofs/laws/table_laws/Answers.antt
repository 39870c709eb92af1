use Rattle.qgm_meaning.proofs.Satisfying.{of-satisfying}
use Rattle.qgm_meaning.proofs.laws.table_laws.Goals as goal

pub returns : goal.returns
returns c = record { satisfying = of-satisfying }
