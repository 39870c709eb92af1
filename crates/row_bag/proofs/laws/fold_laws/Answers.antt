use Rattle.row_bag.proofs.FoldLaws.{every-alike, exists-alike, folded-alike, many-alike, or_else-alike, scalar-alike, some-alike}
use Rattle.row_bag.proofs.laws.fold_laws.Goals as goal

pub returns-clause-subqueries : goal.returns-clause-subqueries
returns-clause-subqueries c = record { value = scalar-alike; presence = exists-alike; of_some = some-alike; of_every = every-alike }

pub returns-clause-aggregates : goal.returns-clause-aggregates
returns-clause-aggregates c = record { cells = folded-alike }

pub returns-clause-rows : goal.returns-clause-rows
returns-clause-rows c = record { numbers = many-alike; others = or_else-alike }
