use Rattle.rule_magic.proofs.TaggedCounts.{single-tags}
use Rattle.rule_magic.proofs.TaggedOuters.{arms-tags, left-tags}
use Rattle.rule_magic.proofs.TaggedRows.{distinct-tags, keyed-under, sets-tags}
use Rattle.rule_magic.proofs.TaggedSelects.{selects-tags}
use Rattle.rule_magic.proofs.laws.row_laws.Goals as goal

pub returns-clause-distinct : goal.returns-clause-distinct
returns-clause-distinct c = distinct-tags

pub returns-clause-sets : goal.returns-clause-sets
returns-clause-sets c = sets-tags

pub returns-clause-keyed_groups : goal.returns-clause-keyed_groups
returns-clause-keyed_groups c = keyed-under

pub returns-clause-single_groups : goal.returns-clause-single_groups
returns-clause-single_groups c = single-tags

pub returns-clause-selects : goal.returns-clause-selects
returns-clause-selects c = selects-tags

pub returns-clause-left_arm : goal.returns-clause-left_arm
returns-clause-left_arm c = left-tags

pub returns-clause-both_arms : goal.returns-clause-both_arms
returns-clause-both_arms c = arms-tags
