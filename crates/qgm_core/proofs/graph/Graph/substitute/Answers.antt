use Rattle.std.proofs.Common.{List, ap, ◌∙◌}
use Rattle.qgm_core.specs.Boxes.{QueryGraph}
use Rattle.qgm_core.specs.declared.node.Node.{Node}
use Rattle.qgm_core.proofs.Changed.{same_conds, terms-put}
use Rattle.qgm_core.proofs.graph.Graph.substitute.Goals as goal

pub returns-clause-ok : goal.returns-clause-ok
returns-clause-ok c =
    let g = c.args.self.now in
    c.put_terms.ensures.graph
    ∙ ap {B = QueryGraph} (λ (ns : List Node). record g { boxes = ns }) (terms-put c.args.b c.args.q c.args.cells.now c.in_ok-head.head c.in_ok-conds.conds c.parts-parts.result.now g.boxes c.parts-parts.ensures (same_conds c.in_ok-conds.conds _ c.in_ok-conds.ensures.items c.in_ok-conds.ensures.spare) c.in_ok-head.ensures)
