use Rattle.rule_engine.proofs.Chosen.{candidates-exact, next-in, none-left}
use Rattle.rule_engine.proofs.Enabled.{enabled-exact}
use Rattle.rule_engine.proofs.Walked.{walk-held}
use Rattle.rule_engine.proofs.laws.control_laws.Goals as goal

pub returns-clause-enabled : goal.returns-clause-enabled
returns-clause-enabled c = enabled-exact

pub returns-clause-exact : goal.returns-clause-exact
returns-clause-exact c = candidates-exact

pub returns-clause-walk : goal.returns-clause-walk
returns-clause-walk c = walk-held

pub returns-clause-next : goal.returns-clause-next
returns-clause-next c = next-in

pub returns-clause-none : goal.returns-clause-none
returns-clause-none c = none-left
