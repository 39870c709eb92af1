use Rattle.rule_facts.proofs.FactsWithoutDistinct.{facts-without-distinct}
use Rattle.rule_facts.proofs.Meets.{holding, meets}
use Rattle.rule_facts.proofs.laws.premise_laws.Goals as goal

pub returns-clause-premises : goal.returns-clause-premises
returns-clause-premises c = meets

pub returns-clause-holds : goal.returns-clause-holds
returns-clause-holds c = holding

pub returns-clause-without_distinct : goal.returns-clause-without_distinct
returns-clause-without_distinct c = facts-without-distinct
