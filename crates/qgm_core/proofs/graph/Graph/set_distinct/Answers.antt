use Rattle.std.proofs.Common.{List, ap, length, subst, sym, refl}
use Rattle.qgm_core.specs.Boxes.{HasBox, QueryGraph, is_box, numbers}
use Rattle.qgm_core.specs.declared.node.Node.{Node}
use Rattle.qgm_core.specs.Numbered.{Under}
use Rattle.qgm_core.specs.Slots.{Sound}
use Rattle.qgm_core.proofs.Slotted.{sound-parted, under-held}
use Rattle.qgm_core.specs.Held.{HasAll}
use Rattle.qgm_core.specs.Edits.{with_distinct}
use Rattle.qgm_core.proofs.Held.{all-parts}
use Rattle.qgm_core.proofs.Changed.{edited}
use Rattle.qgm_core.proofs.graph.Graph.set_distinct.Goals as goal

pub mark-requires-clause-below : goal.mark-requires-clause-below
mark-requires-clause-below c = under-held (length c.self.inside.slots.lists) c.self.inside.nodes.items c.args.b c.self.invariant.0.0 (subst (λ (g : QueryGraph). HasBox c.args.b g) (sym c.self.view_is) c.requires)

pub mark-requires-clause-numbers : goal.mark-requires-clause-numbers
mark-requires-clause-numbers c = subst (λ (ns : List Node). Under (length c.self.inside.slots.lists) (numbers ns)) (sym c.deref.ensures.value) c.self.invariant.0.0

pub invariant_of-self : goal.invariant_of-self
invariant_of-self c =
    let xs = c.self.inside.nodes.items in
    let at = rw c.deref-2.ensures.value at c.box_place-k.ensures.first in
    let n = c.index_mut.result.now in
    let f = with_distinct c.args.distinct in
    let m = rw c.deref.ensures.value at c.mark.ensures in
    subst (λ (ns : List Node). Sound c.mark.new.self c.self.inside.next_quant ns) (sym (at.3 f _ n (ap f c.index_mut.ensures.value)))
    (sound-parted c.args.b f xs c.self.inside.slots c.mark.new.self c.self.inside.next_quant (λ n. refl) (λ n. refl) (λ n. refl) m c.self.invariant)

pub returns-clause-graph : goal.returns-clause-graph
returns-clause-graph c =
    let at = rw c.deref-2.ensures.value at c.box_place-k.ensures.first in
    let n = c.index_mut.result.now in
    let f = with_distinct c.args.distinct in
    edited (is_box c.args.b) f c.self.inside.nodes.items c.box_place-k.result _ n _ _ at (ap f c.index_mut.ensures.value) refl c.self.view_is

pub returns-clause-kept : goal.returns-clause-kept
returns-clause-kept c =
    let g = c.args.self.now in
    subst (λ (h : QueryGraph). HasAll g h) (sym (returns-clause-graph c)) (all-parts (is_box c.args.b) (with_distinct c.args.distinct) g.boxes (λ n. refl) (λ n. refl))
