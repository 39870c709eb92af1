use Rattle.std.proofs.lemmas.Grind.{common_steps}
use Rattle.std.proofs.Common.{◌-◌, subst, sym, arith, length, ℕ, ◌<◌, ◌∙◌, List, Some, ap, refl}
use Rattle.qgm_core.specs.Boxes.{HasQuant, QueryGraph, HasBox, is_box, is_quant, owns}
use Rattle.qgm_core.proofs.Requanted.{numbered-requanted}
use Rattle.qgm_core.specs.Held.{HasAll}
use Rattle.qgm_core.proofs.Held.{all-requanted}
use Rattle.qgm_core.specs.Edits.{without_quant}
use Rattle.list_laws.specs.Lists.{change}
use Rattle.qgm_core.specs.Slots.{Sound}
use Rattle.qgm_core.specs.declared.node.Node.{Node}
use Rattle.qgm_core.proofs.Changed.{found, has-change}
use Rattle.qgm_core.proofs.Counted.{at-get}
use Rattle.qgm_core.proofs.Flagged.{under-at}
use Rattle.qgm_core.proofs.Slotted.{under-held}
use Rattle.qgm_core.proofs.SlotEdits.{sound-moved_quant}
use Rattle.qgm_core.proofs.graph.Graph.move_quant.Goals as goal

pub invariant_of-self : goal.invariant_of-self
invariant_of-self c = subst (λ (ns : List Node). Sound c.self.inside.slots c.self.inside.next_quant ns) (sym c.in_err-move_quant.ensures.err) c.self.invariant

pub returns-clause-ok : goal.returns-clause-ok
returns-clause-ok c = grind (arith, common_steps)

pub returns-clause-err : goal.returns-clause-err
returns-clause-err c = grind (arith, common_steps)

pub returns-clause-kept : goal.returns-clause-kept
returns-clause-kept c =
    let g = c.args.self.now in
    subst (λ (h : QueryGraph). HasAll g h) (sym (returns-clause-ok c)) (all-requanted c.args.q c.args.owner (c.args.place - 1) g.boxes c.requires.quant c.requires.owner)

pub invariant_of-self-2 : goal.invariant_of-self-2
invariant_of-self-2 c =
    let xs = c.self.inside.nodes.items in
    let t = c.self.inside.slots in
    let k = c.self.inside.next_quant in
    let q = c.args.q in
    let i = c.args.place - 1 in
    let at = rw c.deref.ensures.value at c.owner_place-k.ensures in
    let o = c.index.result.now in
    let h = subst (λ (g : QueryGraph). HasQuant q g) (sym c.self.view_is) c.requires.quant in
    let same = c.in_ok-move_quant.ensures.ok in
    let own = at.1 o ∙ ap (λ (n : Node). Some n) (sym c.index.ensures) in
    let r = found (is_quant q) o.quants (ap (λ (n : Node). owns q n) c.index.ensures ∙ at.2 o) in
    let mid = change (owns q) (without_quant q) xs in
    let there = found (is_box c.args.owner) mid (has-change (owns q) (without_quant q) c.args.owner xs (λ n. refl) ∙ subst (λ (g : QueryGraph). HasBox c.args.owner g) (sym c.self.view_is) c.requires.owner) in
    let m = rw (c.deref-2.ensures.value ∙ same) at c.mark.ensures in
    let l = rw (c.deref-3.ensures.value ∙ same) at c.mark-2.ensures in
    subst (λ (ns : List Node). Sound c.mark-2.new.self k ns) (sym same)
    (sound-moved_quant q c.args.owner i xs o there.0 r.0 t c.mark.new.self c.mark-2.new.self k h own r.1 there.1 m l c.self.invariant)

pub mark-requires-clause-below : goal.mark-requires-clause-below
mark-requires-clause-below c =
    let xs = c.self.inside.nodes.items in
    let k = c.owner_place-k.result in
    let at = rw c.deref.ensures.value at c.owner_place-k.ensures in
    let o = c.index.result.now in
    under-at (length c.self.inside.slots.lists) xs k o c.self.invariant.0.0 (at-get xs k o at.0 ∙ ap (λ (n : Node). Some n) (sym c.index.ensures))

pub mark-requires-2-clause-below : goal.mark-requires-2-clause-below
mark-requires-2-clause-below c = subst (λ (m : ℕ). c.args.owner < m) (sym c.mark.ensures.2) (under-held (length c.self.inside.slots.lists) c.self.inside.nodes.items c.args.owner c.self.invariant.0.0 (subst (λ (g : QueryGraph). HasBox c.args.owner g) (sym c.self.view_is) c.requires.owner))

pub mark-requires-clause-numbers : goal.mark-requires-clause-numbers
mark-requires-clause-numbers c =
    let xs = c.self.inside.nodes.items in
    let t = c.self.inside.slots in
    let k = c.self.inside.next_quant in
    let q = c.args.q in
    let i = c.args.place - 1 in
    let h = subst (λ (g : QueryGraph). HasQuant q g) (sym c.self.view_is) c.requires.quant in
    let same = c.in_ok-move_quant.ensures.ok in
    let num = numbered-requanted q c.args.owner i (length t.lists) k xs h c.self.invariant.0 in
    rw (c.deref-2.ensures.value ∙ same) num.0

pub mark-requires-2-clause-numbers : goal.mark-requires-2-clause-numbers
mark-requires-2-clause-numbers c =
    let xs = c.self.inside.nodes.items in
    let t = c.self.inside.slots in
    let k = c.self.inside.next_quant in
    let q = c.args.q in
    let i = c.args.place - 1 in
    let h = subst (λ (g : QueryGraph). HasQuant q g) (sym c.self.view_is) c.requires.quant in
    let same = c.in_ok-move_quant.ensures.ok in
    let num = numbered-requanted q c.args.owner i (length t.lists) k xs h c.self.invariant.0 in
    rw (c.deref-3.ensures.value ∙ same, c.mark.ensures.2) num.0
