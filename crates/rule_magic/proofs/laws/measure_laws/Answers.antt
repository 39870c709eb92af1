use Rattle.rule_magic.proofs.AbsorbGroupKeeps.{group-lowers}
use Rattle.rule_magic.proofs.AbsorbArmsKeeps.{outer-arms-lowers}
use Rattle.rule_magic.proofs.AbsorbLeftKeeps.{outer-left-lowers}
use Rattle.rule_magic.proofs.AbsorbKeylessKeeps.{keyless-lowers}
use Rattle.rule_magic.proofs.AbsorbSelectKeeps.{select-lowers}
use Rattle.rule_magic.proofs.AbsorbOpenLowers.{set-open-lowers}
use Rattle.rule_magic.proofs.AbsorbSetKeeps.{set-lowers}
use Rattle.rule_magic.proofs.CompactMeasure.{compact-lowers}
use Rattle.rule_magic.proofs.FiringMeasure.{feed-firing-lowers, group-firing-lowers, outer-firing-lowers, scalar-firing-lowers, select-firing-lowers, set-firing-lowers}
use Rattle.rule_magic.proofs.laws.measure_laws.Goals as goal

pub returns-clause-select : goal.returns-clause-select
returns-clause-select c = select-lowers

pub returns-clause-group : goal.returns-clause-group
returns-clause-group c = group-lowers

pub returns-clause-keyless : goal.returns-clause-keyless
returns-clause-keyless c = keyless-lowers

pub returns-clause-compacted : goal.returns-clause-compacted
returns-clause-compacted c = compact-lowers

pub returns-clause-scalar_fires : goal.returns-clause-scalar_fires
returns-clause-scalar_fires c = scalar-firing-lowers

pub returns-clause-feed_fires : goal.returns-clause-feed_fires
returns-clause-feed_fires c = feed-firing-lowers

pub returns-clause-select_fires : goal.returns-clause-select_fires
returns-clause-select_fires c = select-firing-lowers

pub returns-clause-group_fires : goal.returns-clause-group_fires
returns-clause-group_fires c = group-firing-lowers

pub returns-clause-set : goal.returns-clause-set
returns-clause-set c = set-lowers

pub returns-clause-set_open : goal.returns-clause-set_open
returns-clause-set_open c = set-open-lowers

pub returns-clause-outer_left : goal.returns-clause-outer_left
returns-clause-outer_left c = outer-left-lowers

pub returns-clause-outer_arms : goal.returns-clause-outer_arms
returns-clause-outer_arms c = outer-arms-lowers

pub returns-clause-set_fires : goal.returns-clause-set_fires
returns-clause-set_fires c = set-firing-lowers

pub returns-clause-outer_fires : goal.returns-clause-outer_fires
returns-clause-outer_fires c = outer-firing-lowers
