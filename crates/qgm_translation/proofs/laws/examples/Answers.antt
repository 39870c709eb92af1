use Rattle.qgm_translation.proofs.laws.examples.Goals as goal
use Rattle.qgm_translation.proofs.Sampled.{sampled}
use Rattle.qgm_translation.proofs.Refused.{refused}

pub returns-clause-sampled : goal.returns-clause-sampled
returns-clause-sampled c = sampled

pub returns-clause-refused : goal.returns-clause-refused
returns-clause-refused c = refused
