use Rattle.std.proofs.Common.{List, length, ap, arith}
use Rattle.qgm_core.specs.Boxes.{ids_in}
use Rattle.qgm_core.specs.declared.node.Node.{Node}
use Rattle.qgm_core.proofs.graph.Graph.uses.Goals as goal

pub uses_in-requires : goal.uses_in-requires
uses_in-requires c =
    let e = ap (λ (ns : List Node). length (ids_in ns)) c.deref.ensures.value in
    let f = c.self.invariant.0.3 in
    omega (arith, e, f)
