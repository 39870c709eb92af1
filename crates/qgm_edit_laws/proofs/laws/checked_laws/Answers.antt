use Rattle.qgm_edit_laws.proofs.Formed.{placed-checked, sound-checked}
use Rattle.qgm_edit_laws.proofs.ShapedKept.{shaped-compact}
use Rattle.qgm_edit_laws.proofs.PermitRead.{permit-read}
use Rattle.qgm_edit_laws.proofs.TypedKept.{typed-compact}
use Rattle.qgm_edit_laws.proofs.WellFormedKept.{compact-formed}
use Rattle.qgm_edit_laws.proofs.laws.checked_laws.Goals as goal

pub returns-clause-placed : goal.returns-clause-placed
returns-clause-placed c = placed-checked

pub returns-clause-sound : goal.returns-clause-sound
returns-clause-sound c = sound-checked

pub returns-clause-compact : goal.returns-clause-compact
returns-clause-compact c = λ g w s. shaped-compact g.boxes g.root w s

pub returns-clause-compact_typed : goal.returns-clause-compact_typed
returns-clause-compact_typed c = λ g w t. typed-compact g.boxes g.root w t

pub returns-clause-compact_formed : goal.returns-clause-compact_formed
returns-clause-compact_formed c = compact-formed

pub returns-clause-permit_read : goal.returns-clause-permit_read
returns-clause-permit_read c = λ bs root w s sets h n i. permit-read bs root w s n i sets h
