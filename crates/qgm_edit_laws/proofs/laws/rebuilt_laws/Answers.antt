use Rattle.qgm_edit_laws.proofs.Rebuilt.{rebuilt-formed, rebuilt-looks, rebuilt-sound}
use Rattle.qgm_edit_laws.proofs.laws.rebuilt_laws.Goals as goal

pub returns-clause-sound : goal.returns-clause-sound
returns-clause-sound c = rebuilt-sound

pub returns-clause-looks : goal.returns-clause-looks
returns-clause-looks c = rebuilt-looks

pub returns-clause-formed : goal.returns-clause-formed
returns-clause-formed c = rebuilt-formed
