use Rattle.std.proofs.Common.{◌≡◌, List, ap, length, arith}
use Rattle.qgm_core.specs.Boxes.{QueryGraph}
use Rattle.qgm_core.specs.declared.node.Node.{Node}
use Rattle.qgm_core.proofs.Refreshed.{stale-fewer, stale-most}
use Rattle.qgm_core.proofs.graph.Graph.refresh.Goals as goal

pub returns-clause-never_less : goal.returns-clause-never_less
returns-clause-never_less g c =
    let ns = c.deref.result.now in
    let f = stale-fewer c.self.inside.slots c.refresh.new.self c.refresh.ensures.rest ns in
    let k = c.refresh.ensures.counted in
    omega (arith, f, k)

pub returns-clause-most : goal.returns-clause-most
returns-clause-most g c =
    let m = stale-most c.self.inside.slots c.deref.result.now in
    let k = c.refresh.ensures.counted in
    let e : length c.deref.result.now ≡ length c.self.inside.nodes.items = ap (λ (ns : List Node). length ns) c.deref.ensures.value in
    let l : length c.self.inside.nodes.items ≡ length c.args.self.now.boxes = ap (λ (h : QueryGraph). length h.boxes) c.self.view_is in
    omega (arith, m, k, e, l)
