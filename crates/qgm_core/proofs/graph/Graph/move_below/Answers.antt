use Rattle.std.proofs.Common.{Option, ap, sym, ◌∙◌, subst, rules, length, List}
use Rattle.qgm_core.specs.Boxes.{HasBox, QueryGraph, is_box, numbers}
use Rattle.qgm_core.specs.Edits.{put_found}
use Rattle.list_laws.specs.Lists.{without}
use Rattle.qgm_core.specs.Numbered.{Under}
use Rattle.qgm_core.specs.declared.node.Node.{Node}
use Rattle.qgm_core.proofs.Changed.{found}
use Rattle.qgm_core.specs.Held.{HasAll}
use Rattle.qgm_core.proofs.Held.{all-moved}
use Rattle.qgm_core.specs.Slots.{Sound}
use Rattle.qgm_core.proofs.Slotted.{under-held}
use Rattle.qgm_core.proofs.SlotEdits.{sound-moved}
use Rattle.qgm_core.proofs.graph.Graph.move_below.Goals as goal

pub invariant_of-self : goal.invariant_of-self
invariant_of-self c =
    let xs = c.self.inside.nodes.items in
    let q = c.self.inside.next_quant in
    let k = found (is_box c.args.c) xs (subst (λ (g : QueryGraph). HasBox c.args.c g) (sym c.self.view_is) c.requires.moved) in
    let m = rw c.deref.ensures.value at c.mark.ensures in
    subst (λ (ns : List Node). Sound c.mark.new.self q ns)
    (sym (c.move_below.ensures ∙ ap (λ (o : Option Node). put_found c.args.d o (without (is_box c.args.c) xs)) k.1))
    (sound-moved c.args.c c.args.d k.0 xs c.self.inside.slots c.mark.new.self q k.1 m c.self.invariant)

pub returns-clause-graph : goal.returns-clause-graph
returns-clause-graph c = search rules

pub returns-clause-kept : goal.returns-clause-kept
returns-clause-kept c =
    let g = c.args.self.now in
    subst (λ (h : QueryGraph). HasAll g h) (sym (returns-clause-graph c)) (all-moved c.args.c c.args.d g.boxes c.requires.moved)

pub mark-requires-clause-below : goal.mark-requires-clause-below
mark-requires-clause-below c = under-held (length c.self.inside.slots.lists) c.self.inside.nodes.items c.args.c c.self.invariant.0.0 (subst (λ (g : QueryGraph). HasBox c.args.c g) (sym c.self.view_is) c.requires.moved)

pub mark-requires-clause-numbers : goal.mark-requires-clause-numbers
mark-requires-clause-numbers c = subst (λ (ns : List Node). Under (length c.self.inside.slots.lists) (numbers ns)) (sym c.deref.ensures.value) c.self.invariant.0.0
