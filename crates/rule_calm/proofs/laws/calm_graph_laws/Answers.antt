use Rattle.rule_calm.proofs.CalmCloses.{calm-closes, calm-rewrites-close}
use Rattle.rule_calm.proofs.laws.calm_graph_laws.Goals as goal

pub returns-clause-closes : goal.returns-clause-closes
returns-clause-closes c = calm-closes

pub returns-clause-rewrites : goal.returns-clause-rewrites
returns-clause-rewrites c = calm-rewrites-close
