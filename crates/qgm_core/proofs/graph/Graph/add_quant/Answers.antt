use Rattle.std.proofs.Common.{List, ◌-◌, ◌+◌, ap, ◌∙◌, refl, sym, subst, arith, length, ◌≡◌, ◌<◌, ◌∷◌, [], ℕ, get_or}
use Rattle.qgm_core.specs.Boxes.{QueryGraph, HasQuant, is_box, HasBox, numbers, overs_in}
use Rattle.qgm_core.specs.Edits.{put_range, range}
use Rattle.qgm_core.specs.Numbered.{Under}
use Rattle.qgm_core.specs.declared.node.Node.{Node}
use Rattle.qgm_core.specs.declared.owned.OwnedQuant.{OwnedQuant}
use Rattle.qgm_core.proofs.Fresh.{never_both, no_quant, numbered-quant}
use Rattle.qgm_core.specs.Held.{HasAll}
use Rattle.qgm_core.proofs.Held.{all-range, range-held}
use Rattle.std.proofs.lemmas.Grind.{common_steps}
use Rattle.qgm_core.proofs.Changed.{edited}
use Rattle.qgm_core.specs.Slots.{Sound}
use Rattle.qgm_core.proofs.Slotted.{sound-more, under-held}
use Rattle.list_laws.specs.Lists.{change, times}
use Rattle.qgm_core.proofs.Totals.{overs-more, used-more, uses-all}
use Rattle.qgm_core.proofs.graph.Graph.add_quant.Goals as goal

pub invariant_of-self-2 : goal.invariant_of-self-2
invariant_of-self-2 c =
    let xs = c.self.inside.nodes.items in
    let t = c.self.inside.slots in
    let q = c.self.inside.next_quant in
    let at = rw c.deref.ensures.value at c.box_place-k.ensures.first in
    let n = c.index_mut.result.now in
    let i = c.args.place - 1 in
    let r = range q c.args.kind c.args.over in
    let f = put_range i r in
    let same = at.3 f _ n (ap {B = Node} (λ (rs : List OwnedQuant). record n { quants = rs }) c.in_ok-insert.ensures.ok ∙ ap f c.index_mut.ensures.value) in
    let num = numbered-quant (is_box c.args.owner) (length t.lists) q xs i r refl c.self.invariant.0 in
    let m = rw (c.deref-2.ensures.value ∙ same) at c.mark.ensures in
    let own = at.1 n in
    let u : length c.add_use.new.self.uses ≡ length t.uses = c.add_use.ensures.rest.2 ∙ ap length m.0 in
    let one : (x : ℕ) → x < length t.uses → get_or c.add_use.new.self.uses x 0 ≡ get_or t.uses x 0 + times x (c.args.over ∷ []) = λ x l. c.add_use.ensures.counted x (rw m.0 l) ∙ ap (λ (us : List ℕ). get_or us x 0 + times x (c.args.over ∷ [])) m.0 in
    let uses = used-more t.uses c.add_use.new.self.uses xs (change (is_box c.args.owner) f xs) u c.self.invariant.1.1 c.args.over one (λ x. overs-more x i (is_box c.args.owner) r xs _ own) in
    subst (λ (ns : List Node). Sound c.add_use.new.self (q + 1) ns) (sym same)
    (sound-more c.args.owner f xs t c.mark.new.self c.add_use.new.self (q + 1) q (λ n. refl) m (c.add_use.ensures.rest.0, c.add_use.ensures.rest.1, uses) c.self.invariant num)

pub mark-requires-clause-below : goal.mark-requires-clause-below
mark-requires-clause-below c = under-held (length c.self.inside.slots.lists) c.self.inside.nodes.items c.args.owner c.self.invariant.0.0 (subst (λ (g : QueryGraph). HasBox c.args.owner g) (sym c.self.view_is) c.requires.owner)

pub mark-requires-clause-numbers : goal.mark-requires-clause-numbers
mark-requires-clause-numbers c =
    let xs = c.self.inside.nodes.items in
    let t = c.self.inside.slots in
    let q = c.self.inside.next_quant in
    let at = rw c.deref.ensures.value at c.box_place-k.ensures.first in
    let n = c.index_mut.result.now in
    let i = c.args.place - 1 in
    let r = range q c.args.kind c.args.over in
    let f = put_range i r in
    let same = at.3 f _ n (ap {B = Node} (λ (rs : List OwnedQuant). record n { quants = rs }) c.in_ok-insert.ensures.ok ∙ ap f c.index_mut.ensures.value) in
    let num = numbered-quant (is_box c.args.owner) (length t.lists) q xs i r refl c.self.invariant.0 in
    subst (λ (ns : List Node). Under (length t.lists) (numbers ns)) (sym (c.deref-2.ensures.value ∙ same)) num.0

pub returns-clause-fresh : goal.returns-clause-fresh
returns-clause-fresh c = λ h.
    let e = no_quant c.self.inside.next_quant c.self.inside.nodes.items c.self.invariant.0.2 in
    let k = subst (λ (g : QueryGraph). HasQuant c.self.inside.next_quant g) (sym c.self.view_is) h in
    never_both _ e k

pub returns-clause-ok : goal.returns-clause-ok
returns-clause-ok c =
    let at = rw c.deref.ensures.value at c.box_place-k.ensures.first in
    let n = c.index_mut.result.now in
    let f = put_range (c.args.place - 1) (range c.self.inside.next_quant c.args.kind c.args.over) in
    edited (is_box c.args.owner) f c.self.inside.nodes.items c.box_place-k.result _ n _ _ at (ap {B = Node} (λ (rs : List OwnedQuant). record n { quants = rs }) c.in_ok-insert.ensures.ok ∙ ap f c.index_mut.ensures.value) refl c.self.view_is

pub returns-clause-kept : goal.returns-clause-kept
returns-clause-kept c =
    let g = c.args.self.now in
    subst (λ (h : QueryGraph). HasAll g h) (sym (returns-clause-ok c)) (all-range (is_box c.args.owner) (c.args.place - 1) (range c.self.inside.next_quant c.args.kind c.args.over) g.boxes)

pub returns-clause-held : goal.returns-clause-held
returns-clause-held c =
    let q = c.self.inside.next_quant in
    subst (λ (h : QueryGraph). HasQuant q h) (sym (returns-clause-ok c)) (range-held c.args.owner (c.args.place - 1) (range q c.args.kind c.args.over) c.args.self.now.boxes c.requires.owner)

pub invariant_of-self : goal.invariant_of-self
invariant_of-self c = grind (arith, common_steps)

pub returns-in_err-insert-clause-err : goal.returns-in_err-insert-clause-err
returns-in_err-insert-clause-err c = grind (arith, common_steps)

pub returns-in_err-insert-clause-kept : goal.returns-in_err-insert-clause-kept
returns-in_err-insert-clause-kept c = grind (arith, common_steps)

pub insert-requires : goal.insert-requires
insert-requires c = grind (arith, common_steps)

pub add_use-requires : goal.add_use-requires
add_use-requires c = λ l.
    let m = c.mark.ensures.0 in
    let b = c.args.over in
    let e : get_or c.mark.new.self.uses b 0 ≡ times b (overs_in c.self.inside.nodes.items) = ap (λ (us : List ℕ). get_or us b 0) m ∙ c.self.invariant.1.1 b (rw m at l) in
    let all = uses-all b c.self.inside.nodes.items in
    let most = c.self.invariant.0.3 in
    grind (arith, common_steps, e, all, most)
