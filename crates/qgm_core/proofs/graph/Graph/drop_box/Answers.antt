use Rattle.std.proofs.Common.{subst, sym, ◌∙◌, arith, length, List, ap, ◌≡◌, ◌≤◌}
use Rattle.qgm_core.specs.Boxes.{HasBox, QueryGraph, is_box, numbers, ids_in}
use Rattle.qgm_core.specs.Numbered.{Under}
use Rattle.qgm_core.proofs.Spliced.{numbered-dropped}
use Rattle.qgm_core.proofs.Changed.{found}
use Rattle.std.proofs.lemmas.Grind.{common_steps}
use Rattle.qgm_core.specs.declared.node.Node.{Node}
use Rattle.qgm_core.specs.Slots.{Sound}
use Rattle.qgm_core.proofs.Slotted.{under-held}
use Rattle.qgm_core.proofs.SlotEdits.{sound-dropped, vacant-room}
use Rattle.qgm_core.proofs.graph.Graph.drop_box.Goals as goal

pub invariant_of-self : goal.invariant_of-self
invariant_of-self c =
    let xs = c.self.inside.nodes.items in
    let t = c.self.inside.slots in
    let q = c.self.inside.next_quant in
    let b = c.args.b in
    let at = rw c.deref-2.ensures.value at c.box_place-k.ensures.first in
    let n = found (is_box b) xs (subst (λ (g : QueryGraph). HasBox b g) (sym c.self.view_is) c.requires) in
    let same = c.remove-dropped.ensures.items ∙ at.4 in
    let m = rw c.deref.ensures.value at c.mark.ensures in
    let d = rw (c.deref-3.ensures.value ∙ same) at c.recount.ensures in
    subst (λ (ns : List Node). Sound c.recount.new.self q ns) (sym same)
    (sound-dropped b n.0 xs n.1 t c.mark.new.self c.give_back.new.self c.recount.new.self q m c.give_back.ensures.vacant c.give_back.ensures.rest.1 d c.self.invariant)

pub returns : goal.returns
returns c = grind (arith, common_steps)

pub mark-requires-clause-below : goal.mark-requires-clause-below
mark-requires-clause-below c = under-held (length c.self.inside.slots.lists) c.self.inside.nodes.items c.args.b c.self.invariant.0.0 (subst (λ (g : QueryGraph). HasBox c.args.b g) (sym c.self.view_is) c.requires)

pub mark-requires-clause-numbers : goal.mark-requires-clause-numbers
mark-requires-clause-numbers c = subst (λ (ns : List Node). Under (length c.self.inside.slots.lists) (numbers ns)) (sym c.deref.ensures.value) c.self.invariant.0.0

pub give_back-requires : goal.give_back-requires
give_back-requires c =
    let h = subst (λ (g : QueryGraph). HasBox c.args.b g) (sym c.self.view_is) c.requires in
    let l = vacant-room c.args.b c.self.inside.nodes.items c.self.inside.slots h c.self.invariant.1.0 in
    let v : length c.mark.new.self.vacant ≡ length c.self.inside.slots.vacant = ap length c.mark.ensures.1 in
    let m = c.mark.ensures.2 in
    omega (arith, l, v, m)

pub recount-requires : goal.recount-requires
recount-requires c =
    let xs = c.self.inside.nodes.items in
    let t = c.self.inside.slots in
    let q = c.self.inside.next_quant in
    let b = c.args.b in
    let at = rw c.deref-2.ensures.value at c.box_place-k.ensures.first in
    let n = found (is_box b) xs (subst (λ (g : QueryGraph). HasBox b g) (sym c.self.view_is) c.requires) in
    let same = c.remove-dropped.ensures.items ∙ at.4 in
    subst (λ (ns : List Node). length (ids_in ns) ≤ q) (sym (c.deref-3.ensures.value ∙ same)) (numbered-dropped (is_box b) (length t.lists) q xs n.0 n.1 c.self.invariant.0).3
