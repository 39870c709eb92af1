use Rattle.std.proofs.Common.{List, ap, ◌∙◌, refl, subst, sym, length, Some, ◌≡◌, ◌<◌, ◌+◌, ◌∷◌, [], ℕ, get_or, arith}
use Rattle.qgm_core.specs.Boxes.{QueryGraph, owns, is_quant, numbers, overs_in}
use Rattle.qgm_core.specs.Held.{HasAll}
use Rattle.qgm_core.specs.declared.node.Node.{Node}
use Rattle.qgm_core.specs.declared.owned.OwnedQuant.{OwnedQuant}
use Rattle.qgm_core.proofs.Fresh.{ids-on_quant, numbered-parts}
use Rattle.qgm_core.proofs.Held.{all-quant}
use Rattle.qgm_core.proofs.Changed.{edited}
use Rattle.qgm_core.specs.Edits.{on_quant}
use Rattle.qgm_core.specs.Numbered.{Under}
use Rattle.qgm_core.specs.Slots.{Sound}
use Rattle.qgm_core.proofs.Counted.{at-get}
use Rattle.qgm_core.proofs.Flagged.{under-at}
use Rattle.qgm_core.proofs.Slotted.{found-owner, sound-requanted, times-itself}
use Rattle.list_laws.specs.Lists.{change, first, times}
use Rattle.qgm_core.proofs.ByNumber.{read-within}
use Rattle.qgm_core.proofs.Totals.{overs-redirected, used-moved, used-once, uses-all}
use Rattle.std.proofs.lemmas.Grind.{common_steps}
use Rattle.qgm_core.proofs.graph.Graph.redirect.Goals as goal

pub invariant_of-self : goal.invariant_of-self
invariant_of-self c =
    let xs = c.self.inside.nodes.items in
    let t = c.self.inside.slots in
    let q = c.self.inside.next_quant in
    let at = rw c.deref.ensures.value at c.owner_place-k.ensures in
    let n = c.index_mut.result.now in
    let o = c.index.result.now in
    let p = owns c.args.q in
    let f = on_quant c.args.q (λ (r : OwnedQuant). record r { over = c.args.over }) in
    let same = at.3 f _ n (ap {B = Node} (λ (rs : List OwnedQuant). record n { quants = rs }) c.put_over.ensures ∙ ap f c.index_mut.ensures.value) in
    let own = at.1 o ∙ ap (λ (n : Node). Some n) (sym c.index.ensures) in
    let r = c.range_of-before.result in
    let there : c.index-2.result.now ≡ o = c.index-2.ensures ∙ read-within xs c.owner_place-k.result c.index-2.result.now o at.0 ∙ sym c.index.ensures in
    let range : first (is_quant c.args.q) o.quants ≡ Some r = ap (λ (rs : List OwnedQuant). first (is_quant c.args.q) rs) (ap (λ (n : Node). n.quants) (sym there) ∙ sym c.as_slice.ensures) ∙ sym c.range_of-before.ensures in
    let owner = found-owner p xs o own in
    let m = rw c.deref-2.ensures.value at c.mark.ensures in
    let num = numbered-parts p f (length t.lists) q xs (λ n. refl) (λ n. ids-on_quant c.args.q _ n (λ r. refl)) c.self.invariant.0 in
    let long : length c.drop_use.new.self.uses ≡ length t.uses = c.drop_use.ensures.rest.2 ∙ ap length m.0 in
    let less : (x : ℕ) → x < length t.uses → get_or c.drop_use.new.self.uses x 0 + times x (r.over ∷ []) ≡ get_or t.uses x 0 = λ x l. c.drop_use.ensures.counted x (rw m.0 l) ∙ ap (λ (us : List ℕ). get_or us x 0) m.0 in
    let more : (x : ℕ) → x < length t.uses → get_or c.add_use.new.self.uses x 0 ≡ get_or c.drop_use.new.self.uses x 0 + times x (c.args.over ∷ []) = λ x l. c.add_use.ensures.counted x (rw long l) in
    let uses = used-moved t.uses c.drop_use.new.self.uses c.add_use.new.self.uses xs (change p f xs) (c.add_use.ensures.rest.2 ∙ long) c.self.invariant.1.1 r.over c.args.over less more (λ x. overs-redirected x c.args.q p c.args.over xs o r own range) in
    subst (λ (ns : List Node). Sound c.add_use.new.self q ns) (sym same)
    (sound-requanted o.id p f xs t c.mark.new.self q c.add_use.new.self q (λ n. refl) owner m (c.add_use.ensures.rest.0 ∙ c.drop_use.ensures.rest.0, c.add_use.ensures.rest.1 ∙ c.drop_use.ensures.rest.1, uses) c.self.invariant num)

pub mark-requires-clause-below : goal.mark-requires-clause-below
mark-requires-clause-below c =
    let xs = c.self.inside.nodes.items in
    let k = c.owner_place-k.result in
    let at = rw c.deref.ensures.value at c.owner_place-k.ensures in
    let o = c.index.result.now in
    under-at (length c.self.inside.slots.lists) xs k o c.self.invariant.0.0 (at-get xs k o at.0 ∙ ap (λ (n : Node). Some n) (sym c.index.ensures))

pub mark-requires-clause-numbers : goal.mark-requires-clause-numbers
mark-requires-clause-numbers c = subst (λ (ns : List Node). Under (length c.self.inside.slots.lists) (numbers ns)) (sym c.deref-2.ensures.value) c.self.invariant.0.0

pub returns-clause-graph : goal.returns-clause-graph
returns-clause-graph c =
    let at = rw c.deref.ensures.value at c.owner_place-k.ensures in
    let n = c.index_mut.result.now in
    let f = on_quant c.args.q (λ r. record r { over = c.args.over }) in
    edited (owns c.args.q) f c.self.inside.nodes.items c.owner_place-k.result _ n _ _ at (ap {B = Node} (λ (rs : List OwnedQuant). record n { quants = rs }) c.put_over.ensures ∙ ap f c.index_mut.ensures.value) refl c.self.view_is

pub returns-clause-kept : goal.returns-clause-kept
returns-clause-kept c =
    let g = c.args.self.now in
    subst (λ (h : QueryGraph). HasAll g h) (sym (returns-clause-graph c)) (all-quant (owns c.args.q) c.args.q (λ (r : OwnedQuant). record r { over = c.args.over }) g.boxes (λ r. refl))

pub drop_use-requires : goal.drop_use-requires
drop_use-requires c = λ l.
    let xs = c.self.inside.nodes.items in
    let t = c.self.inside.slots in
    let at = rw c.deref.ensures.value at c.owner_place-k.ensures in
    let o = c.index.result.now in
    let p = owns c.args.q in
    let own = at.1 o ∙ ap (λ (n : Node). Some n) (sym c.index.ensures) in
    let r = c.range_of-before.result in
    let there : c.index-2.result.now ≡ o = c.index-2.ensures ∙ read-within xs c.owner_place-k.result c.index-2.result.now o at.0 ∙ sym c.index.ensures in
    let range : first (is_quant c.args.q) o.quants ≡ Some r = ap (λ (rs : List OwnedQuant). first (is_quant c.args.q) rs) (ap (λ (n : Node). n.quants) (sym there) ∙ sym c.as_slice.ensures) ∙ sym c.range_of-before.ensures in
    let k = used-once c.args.q p xs o r own range in
    let m = c.mark.ensures.0 in
    let e : get_or c.mark.new.self.uses r.over 0 ≡ times r.over (overs_in xs) = ap (λ (us : List ℕ). get_or us r.over 0) m ∙ c.self.invariant.1.1 r.over (rw m at l) in
    omega (arith, k, e)

pub add_use-requires : goal.add_use-requires
add_use-requires c = λ l.
    let xs = c.self.inside.nodes.items in
    let t = c.self.inside.slots in
    let q = c.self.inside.next_quant in
    let at = rw c.deref.ensures.value at c.owner_place-k.ensures in
    let n = c.index_mut.result.now in
    let o = c.index.result.now in
    let p = owns c.args.q in
    let f = on_quant c.args.q (λ (r : OwnedQuant). record r { over = c.args.over }) in
    let same = at.3 f _ n (ap {B = Node} (λ (rs : List OwnedQuant). record n { quants = rs }) c.put_over.ensures ∙ ap f c.index_mut.ensures.value) in
    let own = at.1 o ∙ ap (λ (n : Node). Some n) (sym c.index.ensures) in
    let r = c.range_of-before.result in
    let there : c.index-2.result.now ≡ o = c.index-2.ensures ∙ read-within xs c.owner_place-k.result c.index-2.result.now o at.0 ∙ sym c.index.ensures in
    let range : first (is_quant c.args.q) o.quants ≡ Some r = ap (λ (rs : List OwnedQuant). first (is_quant c.args.q) rs) (ap (λ (n : Node). n.quants) (sym there) ∙ sym c.as_slice.ensures) ∙ sym c.range_of-before.ensures in
    let num = numbered-parts p f (length t.lists) q xs (λ n. refl) (λ n. ids-on_quant c.args.q _ n (λ r. refl)) c.self.invariant.0 in
    let ms = change p f xs in
    let b = c.args.over in
    let m = c.mark.ensures.0 in
    let long : length c.drop_use.new.self.uses ≡ length t.uses = c.drop_use.ensures.rest.2 ∙ ap length m in
    let k : b < length t.uses = rw long at l in
    let less : get_or c.drop_use.new.self.uses b 0 + times b (r.over ∷ []) ≡ times b (overs_in xs) = c.drop_use.ensures.counted b (rw m k) ∙ ap (λ (us : List ℕ). get_or us b 0) m ∙ c.self.invariant.1.1 b k in
    let e = overs-redirected b c.args.q p b xs o r own range in
    let one = times-itself b in
    let all = uses-all b ms in
    let most = num.3 in
    grind (arith, common_steps, less, e, one, all, most)
