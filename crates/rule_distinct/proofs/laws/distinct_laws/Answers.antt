use Rattle.rule_distinct.specs.DropKeyDistinctExact.{drop-key-distinct-places}
use Rattle.rule_distinct.proofs.DropKeyDistinctKeeps.{drop-key-distinct-preserves}
use Rattle.rule_distinct.specs.PermitDistinctExact.{permit-distinct-places}
use Rattle.rule_distinct.proofs.PermitDistinctKeeps.{permit-distinct-preserves}
use Rattle.rule_distinct.specs.DropUnionDistinctExact.{drop-union-distinct-places}
use Rattle.rule_distinct.proofs.DropUnionDistinctKeeps.{drop-union-distinct-preserves}
use Rattle.rule_distinct.proofs.laws.distinct_laws.Goals as goal

pub returns-clause-drop_key_distinct : goal.returns-clause-drop_key_distinct
returns-clause-drop_key_distinct c = λ g h u w p may e. drop-key-distinct-preserves g h u w p may e

pub returns-clause-drop_key_distinct_places : goal.returns-clause-drop_key_distinct_places
returns-clause-drop_key_distinct_places c = λ g u w b. drop-key-distinct-places g u w b

pub returns-clause-permit_distinct : goal.returns-clause-permit_distinct
returns-clause-permit_distinct c = λ g h u w p may e. permit-distinct-preserves g h u w p may e

pub returns-clause-permit_distinct_places : goal.returns-clause-permit_distinct_places
returns-clause-permit_distinct_places c = λ g u w b. permit-distinct-places g u w b

pub returns-clause-drop_union_distinct : goal.returns-clause-drop_union_distinct
returns-clause-drop_union_distinct c = λ g h u w p may e. drop-union-distinct-preserves g h u w p may e

pub returns-clause-drop_union_distinct_places : goal.returns-clause-drop_union_distinct_places
returns-clause-drop_union_distinct_places c = λ g u w b. drop-union-distinct-places g u w b
