-- The laws of how many boxes there are.
use Rattle.rule_set.proofs.BoxLimit.{firings-keep-limit, steps-keep-limit}
use Rattle.rule_set.proofs.laws.box_limit_laws.Goals as goal

pub returns-clause-firings : goal.returns-clause-firings
returns-clause-firings c = firings-keep-limit

pub returns-clause-steps : goal.returns-clause-steps
returns-clause-steps c = steps-keep-limit
