use Rattle.std.proofs.Common.{List, ap, ◌∙◌, refl, subst, sym, length, Some}
use Rattle.qgm_core.specs.Boxes.{QueryGraph, owns, numbers}
use Rattle.qgm_core.specs.declared.node.Node.{Node}
use Rattle.qgm_core.specs.declared.owned.OwnedQuant.{OwnedQuant}
use Rattle.qgm_core.proofs.Fresh.{ids-on_quant}
use Rattle.qgm_core.specs.Held.{HasAll}
use Rattle.qgm_core.proofs.Held.{all-quant}
use Rattle.qgm_core.proofs.Changed.{edited}
use Rattle.qgm_core.specs.Edits.{on_quant}
use Rattle.qgm_core.specs.Numbered.{Under}
use Rattle.qgm_core.specs.Slots.{Sound}
use Rattle.qgm_core.proofs.Counted.{at-get}
use Rattle.qgm_core.proofs.Flagged.{under-at}
use Rattle.qgm_core.proofs.Slotted.{found-owner, overs-kind, sound-parts}
use Rattle.qgm_core.proofs.graph.Graph.put_quant.Goals as goal

pub invariant_of-self : goal.invariant_of-self
invariant_of-self c =
    let xs = c.self.inside.nodes.items in
    let t = c.self.inside.slots in
    let q = c.self.inside.next_quant in
    let at = rw c.deref.ensures.value at c.owner_place-k.ensures in
    let n = c.index_mut.result.now in
    let o = c.index.result.now in
    let p = owns c.args.q in
    let f = on_quant c.args.q (λ (r : OwnedQuant). record r { kind = c.args.kind }) in
    let same = at.3 f _ n (ap {B = Node} (λ (rs : List OwnedQuant). record n { quants = rs }) c.put_kind.ensures ∙ ap f c.index_mut.ensures.value) in
    let owner = found-owner p xs o (at.1 o ∙ ap (λ (n : Node). Some n) (sym c.index.ensures)) in
    let m = rw c.deref-2.ensures.value at c.mark.ensures in
    subst (λ (ns : List Node). Sound c.mark.new.self q ns) (sym same)
    (sound-parts o.id p f xs t c.mark.new.self q (λ n. refl) (λ n. ids-on_quant c.args.q _ n (λ r. refl)) (λ n. overs-kind c.args.q _ n (λ r. refl)) owner m c.self.invariant)

pub mark-requires-clause-below : goal.mark-requires-clause-below
mark-requires-clause-below c =
    let xs = c.self.inside.nodes.items in
    let k = c.owner_place-k.result in
    let at = rw c.deref.ensures.value at c.owner_place-k.ensures in
    let o = c.index.result.now in
    under-at (length c.self.inside.slots.lists) xs k o c.self.invariant.0.0 (at-get xs k o at.0 ∙ ap (λ (n : Node). Some n) (sym c.index.ensures))

pub mark-requires-clause-numbers : goal.mark-requires-clause-numbers
mark-requires-clause-numbers c = subst (λ (ns : List Node). Under (length c.self.inside.slots.lists) (numbers ns)) (sym c.deref-2.ensures.value) c.self.invariant.0.0

pub returns-clause-graph : goal.returns-clause-graph
returns-clause-graph c =
    let at = rw c.deref.ensures.value at c.owner_place-k.ensures in
    let n = c.index_mut.result.now in
    let f = on_quant c.args.q (λ r. record r { kind = c.args.kind }) in
    edited (owns c.args.q) f c.self.inside.nodes.items c.owner_place-k.result _ n _ _ at (ap {B = Node} (λ (rs : List OwnedQuant). record n { quants = rs }) c.put_kind.ensures ∙ ap f c.index_mut.ensures.value) refl c.self.view_is

pub returns-clause-kept : goal.returns-clause-kept
returns-clause-kept c =
    let g = c.args.self.now in
    subst (λ (h : QueryGraph). HasAll g h) (sym (returns-clause-graph c)) (all-quant (owns c.args.q) c.args.q (λ (r : OwnedQuant). record r { kind = c.args.kind }) g.boxes (λ r. refl))
