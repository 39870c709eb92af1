use Rattle.std.proofs.Common.{List, ap, ◌∙◌, sym, subst, refl, length, Some, ◌≡◌, ◌<◌, ◌+◌, ◌∷◌, [], ℕ, get_or, arith}
use Rattle.qgm_core.specs.Boxes.{owns, QueryGraph, HasBox, HasQuant, is_quant, numbers, overs_in}
use Rattle.qgm_core.specs.Edits.{without_quant}
use Rattle.qgm_core.specs.declared.node.Node.{Node}
use Rattle.qgm_core.specs.declared.owned.OwnedQuant.{OwnedQuant}
use Rattle.qgm_core.proofs.Fresh.{numbered-without}
use Rattle.qgm_core.proofs.Held.{boxes-without, quants-without}
use Rattle.qgm_core.proofs.Changed.{edited}
use Rattle.qgm_core.specs.Numbered.{Under}
use Rattle.qgm_core.specs.Slots.{Sound}
use Rattle.qgm_core.proofs.Counted.{at-get}
use Rattle.qgm_core.proofs.Flagged.{under-at}
use Rattle.qgm_core.proofs.Slotted.{found-owner, sound-requanted}
use Rattle.list_laws.specs.Lists.{change, first, times}
use Rattle.qgm_core.proofs.ByNumber.{read-within}
use Rattle.qgm_core.proofs.Totals.{overs-less, used-less, used-once}
use Rattle.qgm_core.proofs.graph.Graph.drop_quant.Goals as goal

pub invariant_of-self : goal.invariant_of-self
invariant_of-self c =
    let xs = c.self.inside.nodes.items in
    let t = c.self.inside.slots in
    let q = c.self.inside.next_quant in
    let at = rw c.deref.ensures.value at c.owner_place-k.ensures in
    let n = c.index_mut.result.now in
    let o = c.index.result.now in
    let p = owns c.args.q in
    let f = without_quant c.args.q in
    let same = at.3 f _ n (ap {B = Node} (λ (rs : List OwnedQuant). record n { quants = rs }) c.remove.ensures ∙ ap f c.index_mut.ensures.value) in
    let own = at.1 o ∙ ap (λ (n : Node). Some n) (sym c.index.ensures) in
    let r = c.range_of-was.result in
    let there : c.index-2.result.now ≡ o = c.index-2.ensures ∙ read-within xs c.owner_place-k.result c.index-2.result.now o at.0 ∙ sym c.index.ensures in
    let range : first (is_quant c.args.q) o.quants ≡ Some r = ap (λ (rs : List OwnedQuant). first (is_quant c.args.q) rs) (ap (λ (n : Node). n.quants) (sym there) ∙ sym c.as_slice.ensures) ∙ sym c.range_of-was.ensures in
    let owner = found-owner p xs o own in
    let m = rw c.deref-2.ensures.value at c.mark.ensures in
    let num = numbered-without p c.args.q (length t.lists) q xs c.self.invariant.0 in
    let long : length c.drop_use.new.self.uses ≡ length t.uses = c.drop_use.ensures.rest.2 ∙ ap length m.0 in
    let less : (x : ℕ) → x < length t.uses → get_or c.drop_use.new.self.uses x 0 + times x (r.over ∷ []) ≡ get_or t.uses x 0 = λ x l. c.drop_use.ensures.counted x (rw m.0 l) ∙ ap (λ (us : List ℕ). get_or us x 0) m.0 in
    let uses = used-less t.uses c.drop_use.new.self.uses xs (change p f xs) long c.self.invariant.1.1 r.over less (λ x. overs-less x c.args.q p 0 xs o r own range) in
    subst (λ (ns : List Node). Sound c.drop_use.new.self q ns) (sym same)
    (sound-requanted o.id p f xs t c.mark.new.self q c.drop_use.new.self q (λ n. refl) owner m (c.drop_use.ensures.rest.0, c.drop_use.ensures.rest.1, uses) c.self.invariant num)

pub mark-requires-clause-below : goal.mark-requires-clause-below
mark-requires-clause-below c =
    let xs = c.self.inside.nodes.items in
    let k = c.owner_place-k.result in
    let at = rw c.deref.ensures.value at c.owner_place-k.ensures in
    let o = c.index.result.now in
    under-at (length c.self.inside.slots.lists) xs k o c.self.invariant.0.0 (at-get xs k o at.0 ∙ ap (λ (n : Node). Some n) (sym c.index.ensures))

pub mark-requires-clause-numbers : goal.mark-requires-clause-numbers
mark-requires-clause-numbers c = subst (λ (ns : List Node). Under (length c.self.inside.slots.lists) (numbers ns)) (sym c.deref-2.ensures.value) c.self.invariant.0.0

pub returns-clause-graph : goal.returns-clause-graph
returns-clause-graph c =
    let at = rw c.deref.ensures.value at c.owner_place-k.ensures in
    let n = c.index_mut.result.now in
    let f = without_quant c.args.q in
    edited (owns c.args.q) f c.self.inside.nodes.items c.owner_place-k.result _ n _ _ at (ap {B = Node} (λ (rs : List OwnedQuant). record n { quants = rs }) c.remove.ensures ∙ ap f c.index_mut.ensures.value) refl c.self.view_is

pub returns-clause-boxes : goal.returns-clause-boxes
returns-clause-boxes c = λ b h. subst (λ (g : QueryGraph). HasBox b g) (sym (returns-clause-graph c)) (boxes-without c.args.q b c.args.self.now.boxes h)

pub returns-clause-others : goal.returns-clause-others
returns-clause-others c = λ r n h. subst (λ (g : QueryGraph). HasQuant r g) (sym (returns-clause-graph c)) (quants-without c.args.q r c.args.self.now.boxes n h)

pub drop_use-requires : goal.drop_use-requires
drop_use-requires c = λ l.
    let xs = c.self.inside.nodes.items in
    let t = c.self.inside.slots in
    let at = rw c.deref.ensures.value at c.owner_place-k.ensures in
    let o = c.index.result.now in
    let p = owns c.args.q in
    let own = at.1 o ∙ ap (λ (n : Node). Some n) (sym c.index.ensures) in
    let r = c.range_of-was.result in
    let there : c.index-2.result.now ≡ o = c.index-2.ensures ∙ read-within xs c.owner_place-k.result c.index-2.result.now o at.0 ∙ sym c.index.ensures in
    let range : first (is_quant c.args.q) o.quants ≡ Some r = ap (λ (rs : List OwnedQuant). first (is_quant c.args.q) rs) (ap (λ (n : Node). n.quants) (sym there) ∙ sym c.as_slice.ensures) ∙ sym c.range_of-was.ensures in
    let k = used-once c.args.q p xs o r own range in
    let m = c.mark.ensures.0 in
    let e : get_or c.mark.new.self.uses r.over 0 ≡ times r.over (overs_in xs) = ap (λ (us : List ℕ). get_or us r.over 0) m ∙ c.self.invariant.1.1 r.over (rw m at l) in
    omega (arith, k, e)
