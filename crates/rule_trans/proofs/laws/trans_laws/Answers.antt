use Rattle.rule_trans.proofs.FollowsKeeps.{follows-preserves}
use Rattle.rule_trans.proofs.Preserving.{equal-columns-preserves, equal-literal-preserves}
use Rattle.rule_trans.proofs.laws.trans_laws.Goals as goal

pub returns-clause-follows : goal.returns-clause-follows
returns-clause-follows c = follows-preserves

pub returns-clause-equal_columns : goal.returns-clause-equal_columns
returns-clause-equal_columns c = equal-columns-preserves

pub returns-clause-equal_literal : goal.returns-clause-equal_literal
returns-clause-equal_literal c = equal-literal-preserves
