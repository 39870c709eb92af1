use Rattle.qgm_wellformed.proofs.Faults.{finds-fault, finds-none, well-ordered}
use Rattle.qgm_wellformed.proofs.laws.fault_laws.Goals as goal

pub returns-clause-none : goal.returns-clause-none
returns-clause-none c = finds-none

pub returns-clause-fault : goal.returns-clause-fault
returns-clause-fault c = finds-fault

pub returns-clause-ordered : goal.returns-clause-ordered
returns-clause-ordered c = well-ordered
