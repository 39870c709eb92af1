use Rattle.std.proofs.Common.{◌≡◌, List, sym, subst, insert, ap, ◌∙◌, arith, refl}
use Rattle.qgm_core.specs.Boxes.{QueryGraph, HasBox, bare_box, put_at, ids_in}
use Rattle.qgm_core.specs.Edits.{with_box}
use Rattle.qgm_core.specs.declared.node.Node.{Node}
use Rattle.qgm_core.proofs.Fresh.{ids-insert, if_ok}
use Rattle.qgm_core.specs.Held.{HasAll}
use Rattle.qgm_core.proofs.Held.{all-more}
use Rattle.std.proofs.lemmas.Grind.{common_steps}
use Rattle.std.specs.Prelude.{IsOk}
use Rattle.qgm_core.specs.Slots.{Sound}
use Rattle.qgm_core.proofs.SlotEdits.{fresh-slot, numbered-added, sound-added}
use Rattle.qgm_core.proofs.graph.Graph.add_box.Goals as goal

pub invariant_of-self-2 : goal.invariant_of-self-2
invariant_of-self-2 c =
    let xs = c.self.inside.nodes.items in
    let t = c.self.inside.slots in
    let q = c.self.inside.next_quant in
    let b = c.in_ok-id.id in
    let below = c.args.below in
    let box = bare_box b c.args.parts in
    let at = rw (c.deref-2.ensures.value ∙ c.reserve.ensures.items) at c.new_place-i.ensures in
    let i = c.new_place-i.result in
    let room = c.in_ok-reserve.ensures.ok in
    let done : IsOk c.insert.result = c.insert.ensures.succeeds (omega (arith, room)) in
    let same : c.insert.new.self.items ≡ put_at below box xs = if_ok c.insert.result _ _ _ done c.insert.ensures.items ∙ ap (λ (ns : List Node). insert ns i c.bare-node.result) c.reserve.ensures.items ∙ at.1 c.bare-node.result ∙ ap (λ (n : Node). put_at below n xs) c.bare-node.ensures in
    let ids : ids_in (put_at below box xs) ≡ ids_in xs = ap (λ (ns : List Node). ids_in ns) (sym (at.1 box)) ∙ ids-insert xs i box refl in
    let uses = rw (c.deref.ensures.value ∙ c.reserve.ensures.items) at c.in_ok-id.ensures.uses in
    let m = rw (c.deref-3.ensures.value ∙ same) at c.mark.ensures in
    subst (λ (ns : List Node). Sound c.mark.new.self q ns) (sym same)
    (sound-added b c.args.parts below xs t c.take.new.self c.in_ok-id.ensures.vacant c.mark.new.self q ids uses c.in_ok-id.ensures.lists m c.self.invariant)

pub returns-clause-fresh : goal.returns-clause-fresh
returns-clause-fresh c = λ h.
    fresh-slot c.in_ok-id.id c.self.inside.nodes.items c.self.inside.slots c.take.new.self c.in_ok-id.ensures.vacant c.self.invariant.1.0 (subst (λ (g : QueryGraph). HasBox c.in_ok-id.id g) (sym c.self.view_is) h)

pub returns-clause-ok : goal.returns-clause-ok
returns-clause-ok c =
    let xs = c.self.inside.nodes.items in
    let t = c.self.inside.slots in
    let q = c.self.inside.next_quant in
    let b = c.in_ok-id.id in
    let below = c.args.below in
    let box = bare_box b c.args.parts in
    let at = rw (c.deref-2.ensures.value ∙ c.reserve.ensures.items) at c.new_place-i.ensures in
    let i = c.new_place-i.result in
    let room = c.in_ok-reserve.ensures.ok in
    let done : IsOk c.insert.result = c.insert.ensures.succeeds (omega (arith, room)) in
    let same : c.insert.new.self.items ≡ put_at below box xs = if_ok c.insert.result _ _ _ done c.insert.ensures.items ∙ ap (λ (ns : List Node). insert ns i c.bare-node.result) c.reserve.ensures.items ∙ at.1 c.bare-node.result ∙ ap (λ (n : Node). put_at below n xs) c.bare-node.ensures in
    ap {B = QueryGraph} (λ (ns : List Node). record { boxes = ns; root = c.self.inside.root; names = c.self.inside.names; order = c.self.inside.order }) same
    ∙ ap {B = QueryGraph} (λ (g : QueryGraph). with_box below box g) c.self.view_is

pub returns-clause-kept : goal.returns-clause-kept
returns-clause-kept c =
    let g = c.args.self.now in
    subst (λ (h : QueryGraph). HasAll g h) (sym (returns-clause-ok c)) (all-more c.args.below (bare_box c.in_ok-id.id c.args.parts) g.boxes)

pub returns-clause-held : goal.returns-clause-held
returns-clause-held c = grind (arith, common_steps)

pub new_place-i-requires : goal.new_place-i-requires
new_place-i-requires c = grind (arith, common_steps)

pub mark-requires-clause-numbers : goal.mark-requires-clause-numbers
mark-requires-clause-numbers c =
    let xs = c.self.inside.nodes.items in
    let t = c.self.inside.slots in
    let q = c.self.inside.next_quant in
    let b = c.in_ok-id.id in
    let below = c.args.below in
    let box = bare_box b c.args.parts in
    let at = rw (c.deref-2.ensures.value ∙ c.reserve.ensures.items) at c.new_place-i.ensures in
    let i = c.new_place-i.result in
    let room = c.in_ok-reserve.ensures.ok in
    let done : IsOk c.insert.result = c.insert.ensures.succeeds (omega (arith, room)) in
    let same : c.insert.new.self.items ≡ put_at below box xs = if_ok c.insert.result _ _ _ done c.insert.ensures.items ∙ ap (λ (ns : List Node). insert ns i c.bare-node.result) c.reserve.ensures.items ∙ at.1 c.bare-node.result ∙ ap (λ (n : Node). put_at below n xs) c.bare-node.ensures in
    let ids : ids_in (put_at below box xs) ≡ ids_in xs = ap (λ (ns : List Node). ids_in ns) (sym (at.1 box)) ∙ ids-insert xs i box refl in
    rw (c.deref-3.ensures.value ∙ same) (numbered-added b c.args.parts below xs t c.take.new.self c.in_ok-id.ensures.vacant q ids c.self.invariant).0
