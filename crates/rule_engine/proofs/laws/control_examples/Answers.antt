use Rattle.rule_engine.proofs.Examples.{draws-of-seven, magic-first, second-is-earliest}
use Rattle.rule_engine.proofs.laws.control_examples.Goals as goal

pub returns-clause-draws : goal.returns-clause-draws
returns-clause-draws c = draws-of-seven

pub returns-clause-enabled : goal.returns-clause-enabled
returns-clause-enabled c = magic-first

pub returns-clause-earliest : goal.returns-clause-earliest
returns-clause-earliest c = second-is-earliest
