use Rattle.rule_subquery.specs.ExistsToJoinExact.{exists-to-join-places}
use Rattle.rule_subquery.proofs.ExistsToJoinKeeps.{exists-to-join-preserves}
use Rattle.rule_subquery.specs.ScalarToGroupExact.{scalar-to-group-places}
use Rattle.rule_subquery.proofs.ScalarToGroupKeeps.{scalar-to-group-preserves}
use Rattle.rule_subquery.specs.ScalarToJoinExact.{scalar-to-join-places}
use Rattle.rule_subquery.proofs.ScalarToJoinKeeps.{scalar-to-join-preserves}
use Rattle.rule_subquery.specs.SetToExistsExact.{set-to-exists-places}
use Rattle.rule_subquery.proofs.SetToExistsKeeps.{set-to-exists-preserves}
use Rattle.rule_subquery.proofs.laws.subquery_laws.Goals as goal

pub returns-clause-exists_to_join : goal.returns-clause-exists_to_join
returns-clause-exists_to_join c = λ g h u w p may e. exists-to-join-preserves g h u w p may e

pub returns-clause-exists_to_join_places : goal.returns-clause-exists_to_join_places
returns-clause-exists_to_join_places c = λ g u w b. exists-to-join-places g u w b

pub returns-clause-scalar_to_group : goal.returns-clause-scalar_to_group
returns-clause-scalar_to_group c = λ g h u w p may e. scalar-to-group-preserves g h u w p may e

pub returns-clause-scalar_to_group_places : goal.returns-clause-scalar_to_group_places
returns-clause-scalar_to_group_places c = λ g u w b. scalar-to-group-places g u w b

pub returns-clause-scalar_to_join : goal.returns-clause-scalar_to_join
returns-clause-scalar_to_join c = λ g h u w p may e. scalar-to-join-preserves g h u w p may e

pub returns-clause-scalar_to_join_places : goal.returns-clause-scalar_to_join_places
returns-clause-scalar_to_join_places c = λ g u w b. scalar-to-join-places g u w b

pub returns-clause-set_to_exists : goal.returns-clause-set_to_exists
returns-clause-set_to_exists c = λ g h u w p may e. set-to-exists-preserves g h u w p may e

pub returns-clause-set_to_exists_places : goal.returns-clause-set_to_exists_places
returns-clause-set_to_exists_places c = λ g u w b. set-to-exists-places g u w b
