use Rattle.std.proofs.lemmas.Grind.{common_steps}
use Rattle.std.proofs.Common.{◌-◌, subst, sym, arith, length, List, ap, ◌≤◌, ◌<◌, ℕ, ◌∙◌}
use Rattle.qgm_core.specs.Boxes.{HasBox, QueryGraph, is_box, ids_in}
use Rattle.qgm_core.proofs.Spliced.{numbered-absorbed}
use Rattle.qgm_core.proofs.Changed.{found}
use Rattle.qgm_core.specs.declared.node.Node.{Node}
use Rattle.qgm_core.specs.Slots.{Sound}
use Rattle.qgm_core.proofs.Slotted.{under-held}
use Rattle.qgm_core.proofs.SlotEdits.{sound-absorbed, vacant-room}
use Rattle.qgm_core.proofs.graph.Graph.absorb.Goals as goal

pub invariant_of-self : goal.invariant_of-self
invariant_of-self c = subst (λ (ns : List Node). Sound c.self.inside.slots c.self.inside.next_quant ns) (sym c.in_err-absorb_box.ensures.err) c.self.invariant

pub returns-clause-ok : goal.returns-clause-ok
returns-clause-ok c = grind (arith, common_steps)

pub invariant_of-self-2 : goal.invariant_of-self-2
invariant_of-self-2 c =
    let xs = c.self.inside.nodes.items in
    let t = c.self.inside.slots in
    let q = c.self.inside.next_quant in
    let i = c.args.place - 1 in
    let n = found (is_box c.args.c) xs (subst (λ (g : QueryGraph). HasBox c.args.c g) (sym c.self.view_is) c.requires.other) in
    let same = c.in_ok-absorb_box.ensures.ok in
    let m = rw (c.deref.ensures.value ∙ same) at c.mark.ensures in
    let l = rw (c.deref-2.ensures.value ∙ same) at c.mark-2.ensures in
    let d = rw (c.deref-3.ensures.value ∙ same) at c.recount.ensures in
    subst (λ (ns : List Node). Sound c.recount.new.self q ns) (sym same)
    (sound-absorbed c.args.c n.0 xs n.1 c.args.b i t c.give_back.new.self c.mark.new.self c.mark-2.new.self c.recount.new.self q c.give_back.ensures.vacant c.give_back.ensures.rest.1 m l d c.self.invariant)

pub mark-requires-clause-below : goal.mark-requires-clause-below
mark-requires-clause-below c = subst (λ (m : ℕ). c.args.c < m) (sym (ap length c.give_back.ensures.rest.1)) (under-held (length c.self.inside.slots.lists) c.self.inside.nodes.items c.args.c c.self.invariant.0.0 (subst (λ (g : QueryGraph). HasBox c.args.c g) (sym c.self.view_is) c.requires.other))

pub mark-requires-2-clause-below : goal.mark-requires-2-clause-below
mark-requires-2-clause-below c = subst (λ (m : ℕ). c.args.b < m) (sym (c.mark.ensures.2 ∙ ap length c.give_back.ensures.rest.1)) (under-held (length c.self.inside.slots.lists) c.self.inside.nodes.items c.args.b c.self.invariant.0.0 (subst (λ (g : QueryGraph). HasBox c.args.b g) (sym c.self.view_is) c.requires.owner))

pub mark-requires-clause-numbers : goal.mark-requires-clause-numbers
mark-requires-clause-numbers c =
    let xs = c.self.inside.nodes.items in
    let t = c.self.inside.slots in
    let q = c.self.inside.next_quant in
    let i = c.args.place - 1 in
    let n = found (is_box c.args.c) xs (subst (λ (g : QueryGraph). HasBox c.args.c g) (sym c.self.view_is) c.requires.other) in
    let same = c.in_ok-absorb_box.ensures.ok in
    let num = numbered-absorbed c.args.b i c.args.c (length t.lists) q xs n.0 n.1 c.self.invariant.0 in
    rw (c.deref.ensures.value ∙ same, ap length c.give_back.ensures.rest.1) num.0

pub mark-requires-2-clause-numbers : goal.mark-requires-2-clause-numbers
mark-requires-2-clause-numbers c =
    let xs = c.self.inside.nodes.items in
    let t = c.self.inside.slots in
    let q = c.self.inside.next_quant in
    let i = c.args.place - 1 in
    let n = found (is_box c.args.c) xs (subst (λ (g : QueryGraph). HasBox c.args.c g) (sym c.self.view_is) c.requires.other) in
    let same = c.in_ok-absorb_box.ensures.ok in
    let num = numbered-absorbed c.args.b i c.args.c (length t.lists) q xs n.0 n.1 c.self.invariant.0 in
    rw (c.deref-2.ensures.value ∙ same, c.mark.ensures.2 ∙ ap length c.give_back.ensures.rest.1) num.0

pub give_back-requires : goal.give_back-requires
give_back-requires c =
    let h = subst (λ (g : QueryGraph). HasBox c.args.c g) (sym c.self.view_is) c.requires.other in
    vacant-room c.args.c c.self.inside.nodes.items c.self.inside.slots h c.self.invariant.1.0

pub recount-requires : goal.recount-requires
recount-requires c =
    let xs = c.self.inside.nodes.items in
    let t = c.self.inside.slots in
    let q = c.self.inside.next_quant in
    let i = c.args.place - 1 in
    let n = found (is_box c.args.c) xs (subst (λ (g : QueryGraph). HasBox c.args.c g) (sym c.self.view_is) c.requires.other) in
    let same = c.in_ok-absorb_box.ensures.ok in
    let num = numbered-absorbed c.args.b i c.args.c (length t.lists) q xs n.0 n.1 c.self.invariant.0 in
    subst (λ (ns : List Node). length (ids_in ns) ≤ q) (sym (c.deref-3.ensures.value ∙ same)) num.3
