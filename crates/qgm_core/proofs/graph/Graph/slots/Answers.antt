use Rattle.std.proofs.Common.{◌≡◌, length, subst, sym, ap, arith}
use Rattle.std.proofs.lemmas.List.{length-map}
use Rattle.qgm_core.specs.Boxes.{HasBox, QueryGraph, numbers}
use Rattle.qgm_core.specs.declared.node.Node.{Node}
use Rattle.qgm_core.proofs.Slotted.{under-held}
use Rattle.qgm_core.proofs.Stacked.{once-most}
use Rattle.qgm_core.proofs.graph.Graph.slots.Goals as goal

pub returns-clause-boxes : goal.returns-clause-boxes
returns-clause-boxes c =
    let xs = c.self.inside.nodes.items in
    let m = once-most (length c.self.inside.slots.lists) (numbers xs) c.self.invariant.0.1 c.self.invariant.0.0 in
    let l = length-map xs (λ (n : Node). n.id) in
    let e : length xs ≡ length c.args.self.now.boxes = ap (λ (g : QueryGraph). length g.boxes) c.self.view_is in
    omega (arith, m, l, e, c.len.ensures)

pub returns-clause-numbers : goal.returns-clause-numbers
returns-clause-numbers c = λ b h.
    let l = under-held (length c.self.inside.slots.lists) c.self.inside.nodes.items b c.self.invariant.0.0 (subst (λ (g : QueryGraph). HasBox b g) (sym c.self.view_is) h) in
    omega (arith, l, c.len.ensures)
