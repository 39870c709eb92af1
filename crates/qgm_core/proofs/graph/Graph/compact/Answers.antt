use Rattle.std.proofs.Common.{sym, subst, rules}
use Rattle.qgm_core.specs.Boxes.{QueryGraph, HasBox}
use Rattle.qgm_core.proofs.Held.{root-reached}
use Rattle.qgm_core.proofs.graph.Graph.compact.Goals as goal

pub returns-clause-ok : goal.returns-clause-ok
returns-clause-ok c = search rules

pub returns-clause-root : goal.returns-clause-root
returns-clause-root c = λ h. subst (λ (g : QueryGraph). HasBox g.root g) (sym (returns-clause-ok c)) (root-reached c.args.self.now.root c.args.self.now.boxes h)
