use Rattle.std.proofs.Common.{List, length, ◌≡◌, ◌∙◌, ap, refl, subst, sym}
use Rattle.std.proofs.Math.ListN.{set}
use Rattle.std.proofs.lemmas.List.{set-get_or}
use Rattle.qgm_core.specs.Boxes.{HasBox, QueryGraph, is_box}
use Rattle.qgm_core.specs.declared.node.Node.{Node}
use Rattle.qgm_core.proofs.Changed.{edited, same_conds}
use Rattle.qgm_core.proofs.Fresh.{numbered-parts}
use Rattle.qgm_core.proofs.Slotted.{sound-parted_then, under-held}
use Rattle.qgm_core.specs.Held.{HasAll}
use Rattle.qgm_core.specs.Edits.{with_conds, with_room}
use Rattle.qgm_core.specs.Slots.{Sound}
use Rattle.qgm_terms.specs.Conjuncts.{Conjuncts}
use Rattle.qgm_core.proofs.Held.{all-parts}
use Rattle.std.proofs.lemmas.Result.{err_from_is_err_and}
use Rattle.qgm_core.proofs.graph.Graph.reserve.Goals as goal

pub invariant_of-self : goal.invariant_of-self
invariant_of-self c =
    let xs = c.self.inside.nodes.items in
    let n = c.index_mut.result.now in
    let k = c.box_place-k.result in
    let e = same_conds c.reserve.new.self n.parts.conds c.in_err-reserve.ensures.items c.in_err-reserve.ensures.err in
    let same : set xs k (with_conds c.reserve.new.self n) ≡ xs = ap (λ (cs : Conjuncts). set xs k (with_conds cs n)) e ∙ ap (λ (m : Node). set xs k m) c.index_mut.ensures.value ∙ set-get_or xs k n in
    subst (λ (ns : List Node). Sound c.self.inside.slots c.self.inside.next_quant ns) (sym same) c.self.invariant

pub invariant_of-self-2 : goal.invariant_of-self-2
invariant_of-self-2 c =
    let xs = c.self.inside.nodes.items in
    let at = rw c.deref.ensures.value at c.box_place-k.ensures.first in
    let n = c.index_mut.result.now in
    let f = with_room c.args.n in
    let e = same_conds c.reserve.new.self _ c.in_ok-reserve.ensures.items c.in_ok-reserve.ensures.ok in
    let same = at.3 f _ n (ap {B = Node} (λ (cs : Conjuncts). with_conds cs n) e ∙ ap f c.index_mut.ensures.value) in
    let m = rw (c.deref-2.ensures.value ∙ same) at c.mark.ensures in
    subst (λ (ns : List Node). Sound c.mark.new.self c.self.inside.next_quant ns) (sym same)
    (sound-parted_then c.args.b f xs c.self.inside.slots c.mark.new.self c.self.inside.next_quant (λ n. refl) (λ n. refl) (λ n. refl) m c.self.invariant)

pub mark-requires-clause-below : goal.mark-requires-clause-below
mark-requires-clause-below c = under-held (length c.self.inside.slots.lists) c.self.inside.nodes.items c.args.b c.self.invariant.0.0 (subst (λ (g : QueryGraph). HasBox c.args.b g) (sym c.self.view_is) c.requires)

pub mark-requires-clause-numbers : goal.mark-requires-clause-numbers
mark-requires-clause-numbers c =
    let xs = c.self.inside.nodes.items in
    let t = c.self.inside.slots in
    let at = rw c.deref.ensures.value at c.box_place-k.ensures.first in
    let n = c.index_mut.result.now in
    let f = with_room c.args.n in
    let e = same_conds c.reserve.new.self _ c.in_ok-reserve.ensures.items c.in_ok-reserve.ensures.ok in
    let same = at.3 f _ n (ap {B = Node} (λ (cs : Conjuncts). with_conds cs n) e ∙ ap f c.index_mut.ensures.value) in
    rw (c.deref-2.ensures.value ∙ same) (numbered-parts (is_box c.args.b) f (length t.lists) c.self.inside.next_quant xs (λ n. refl) (λ n. refl) c.self.invariant.0).0

pub returns-clause-ok : goal.returns-clause-ok
returns-clause-ok c =
    let at = rw c.deref.ensures.value at c.box_place-k.ensures.first in
    let n = c.index_mut.result.now in
    let f = with_room c.args.n in
    let e = same_conds c.reserve.new.self _ c.in_ok-reserve.ensures.items c.in_ok-reserve.ensures.ok in
    edited (is_box c.args.b) f c.self.inside.nodes.items c.box_place-k.result _ n _ _ at (ap {B = Node} (λ (cs : Conjuncts). with_conds cs n) e ∙ ap f c.index_mut.ensures.value) refl c.self.view_is

pub returns-clause-kept : goal.returns-clause-kept
returns-clause-kept c =
    let g = c.args.self.now in
    subst (λ (h : QueryGraph). HasAll g h) (sym (returns-clause-ok c)) (all-parts (is_box c.args.b) (with_room c.args.n) g.boxes (λ n. refl) (λ n. refl))

-- what is left where there is no memory
same_graph : (c : goal.After-from_residual) → ◌≡◌ {A = QueryGraph} (record { boxes = set c.self.inside.nodes.items c.box_place-k.result (with_conds c.reserve.new.self c.index_mut.result.now); root = c.self.inside.root; names = c.self.inside.names; order = c.self.inside.order }) c.args.self.now
same_graph c =
    let xs = c.self.inside.nodes.items in
    let n = c.index_mut.result.now in
    let k = c.box_place-k.result in
    let e = same_conds c.reserve.new.self n.parts.conds c.in_err-reserve.ensures.items c.in_err-reserve.ensures.err in
    let same : set xs k (with_conds c.reserve.new.self n) ≡ xs = ap (λ (cs : Conjuncts). set xs k (with_conds cs n)) e ∙ ap (λ (m : Node). set xs k m) c.index_mut.ensures.value ∙ set-get_or xs k n in
    ap {B = QueryGraph} (λ (ns : List Node). record { boxes = ns; root = c.self.inside.root; names = c.self.inside.names; order = c.self.inside.order }) same ∙ c.self.view_is

pub returns-in_err-reserve-clause-err : goal.returns-in_err-reserve-clause-err
returns-in_err-reserve-clause-err c = let p = err_from_is_err_and c.from_residual.result c.from_residual.ensures.1 in rw p.1 (same_graph c)

pub returns-in_err-reserve-clause-kept : goal.returns-in_err-reserve-clause-kept
returns-in_err-reserve-clause-kept c = subst (λ (h : QueryGraph). HasAll c.args.self.now h) (sym (same_graph c)) (λ b h. h, λ q h. h)
