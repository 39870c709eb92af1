use Rattle.qgm_edit_laws.proofs.PermitToPreserve.{permit-to-preserve}
use Rattle.qgm_edit_laws.proofs.PutsBox.{put-agrees, put-agrees-as-set, put-formed, put-sound}
use Rattle.qgm_edit_laws.proofs.laws.put_laws.Goals as goal

pub returns-clause-sound : goal.returns-clause-sound
returns-clause-sound c = λ bs root w o f m. put-sound bs root w o f m

pub returns-clause-formed : goal.returns-clause-formed
returns-clause-formed c = λ g u h o f m. put-formed g u h o f m

pub returns-clause-agrees : goal.returns-clause-agrees
returns-clause-agrees c = λ tables bs root w o f m h. put-agrees bs root w o f m tables h

pub returns-clause-agrees_as_set : goal.returns-clause-agrees_as_set
returns-clause-agrees_as_set c = λ tables bs root w o f m away reads now h. put-agrees-as-set bs root w o f m tables away reads now h

pub returns-clause-permit_to_preserve : goal.returns-clause-permit_to_preserve
returns-clause-permit_to_preserve c = λ g u k b. permit-to-preserve g u k b
