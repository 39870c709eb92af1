use Rattle.box_exec.proofs.Bounded.{bound-if-touched}
use Rattle.box_exec.proofs.Closed.{closed-alike}
use Rattle.box_exec.proofs.Settled.{fit-if-settled}
use Rattle.box_exec.proofs.Totals.{plain-of-closed}
use Rattle.box_exec.proofs.laws.execution_laws.Goals as goal

pub returns-clause-closed : goal.returns-clause-closed
returns-clause-closed c = closed-alike

pub returns-clause-plain : goal.returns-clause-plain
returns-clause-plain c = plain-of-closed

pub returns-clause-fit : goal.returns-clause-fit
returns-clause-fit c = fit-if-settled

pub returns-clause-bound : goal.returns-clause-bound
returns-clause-bound c = bound-if-touched
