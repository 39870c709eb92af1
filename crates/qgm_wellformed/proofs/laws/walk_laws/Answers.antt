use Rattle.qgm_wellformed.proofs.Walks.{lists-once, lists-reached}
use Rattle.qgm_wellformed.proofs.laws.walk_laws.Goals as goal

pub returns-clause-reached : goal.returns-clause-reached
returns-clause-reached c = lists-reached

pub returns-clause-once : goal.returns-clause-once
returns-clause-once c = lists-once
