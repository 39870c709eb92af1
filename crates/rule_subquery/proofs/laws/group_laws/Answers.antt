use Rattle.std.proofs.Common.{refl}
use Rattle.rule_subquery.proofs.ScalarToGroupExample.{singled-example}
use Rattle.rule_subquery.proofs.ScalarToGroupMeans.{single-keeps}
use Rattle.rule_subquery.proofs.ScalarToGroupFormed.{single-formed}
use Rattle.rule_subquery.proofs.laws.group_laws.Goals as goal

pub returns-clause-keeps : goal.returns-clause-keeps
returns-clause-keeps c = single-keeps

pub returns-clause-formed : goal.returns-clause-formed
returns-clause-formed c = single-formed

pub returns-clause-differs : goal.returns-clause-differs
returns-clause-differs c = record { scalar = refl; single = refl }

pub returns-clause-singled : goal.returns-clause-singled
returns-clause-singled c = singled-example
