use Rattle.rule_calm.proofs.FeedFiring.{feed-keeps}
use Rattle.rule_calm.proofs.FiringSettled.{group-keeps, scalar-keeps, select-keeps}
use Rattle.rule_calm.proofs.MagicGrows.{magic-adds-few}
use Rattle.rule_calm.proofs.MagicSettled.{magic-decorrelates, magic-keeps, settled-closes}
use Rattle.rule_calm.proofs.OperationSettled.{set-keeps}
use Rattle.rule_calm.proofs.OuterSettled.{outer-keeps}
use Rattle.rule_calm.proofs.SettledSample.{settled-sample}
use Rattle.rule_calm.proofs.laws.settled_graph_laws.Goals as goal

pub returns-clause-scalar : goal.returns-clause-scalar
returns-clause-scalar c = scalar-keeps

pub returns-clause-feed : goal.returns-clause-feed
returns-clause-feed c = feed-keeps

pub returns-clause-select : goal.returns-clause-select
returns-clause-select c = select-keeps

pub returns-clause-group : goal.returns-clause-group
returns-clause-group c = group-keeps

pub returns-clause-set : goal.returns-clause-set
returns-clause-set c = set-keeps

pub returns-clause-outer : goal.returns-clause-outer
returns-clause-outer c = outer-keeps

pub returns-clause-magic : goal.returns-clause-magic
returns-clause-magic c = magic-keeps

pub returns-clause-closes : goal.returns-clause-closes
returns-clause-closes c = settled-closes

pub returns-clause-grows : goal.returns-clause-grows
returns-clause-grows c = magic-adds-few

pub returns-clause-decorrelates : goal.returns-clause-decorrelates
returns-clause-decorrelates c = magic-decorrelates

pub returns-clause-sample : goal.returns-clause-sample
returns-clause-sample c = settled-sample
