use Rattle.std.proofs.Common.{◌≡◌, ◌-◌, ◌≤◌, ℕ, List, Option, Some, ◌∙◌, ap, sym, refl, subst, slice_get, arith, length, ◌<◌}
use Rattle.qgm_core.specs.Boxes.{QueryGraph, has_box, is_box, HasBox, numbers}
use Rattle.qgm_core.specs.Edits.{cond_at, conds_in, move_conjunct, put_cond_found, spare_in, with_cond, without_cond}
use Rattle.list_laws.specs.Lists.{first, change}
use Rattle.qgm_core.specs.Numbered.{Under}
use Rattle.qgm_core.specs.declared.node.Node.{Node}
use Rattle.qgm_terms.specs.Terms.{Cond}
use Rattle.qgm_core.proofs.Changed.{cond-put, cond-taken, has-change, spare-without}
use Rattle.qgm_core.specs.Held.{HasAll}
use Rattle.qgm_terms.specs.Shown.{cond}
use Rattle.qgm_core.proofs.Held.{all-parts, all-then}
use Rattle.std.proofs.lemmas.Grind.{common_steps}
use Rattle.qgm_core.specs.Slots.{Sound}
use Rattle.qgm_core.proofs.Slotted.{sound-both, under-held}
use Rattle.qgm_core.proofs.graph.Graph.move_conjunct.Goals as goal

pub box_place-k-requires : goal.box_place-k-requires
box_place-k-requires c =
    let xs = c.self.inside.nodes.items in
    let b = c.args.b in
    let i = c.args.i - 1 in
    let to = c.args.to in
    let at = rw c.deref-3.ensures.value at c.box_place-from.ensures.first in
    let one = cond-taken b i c.box_place-from.result xs c.index_mut.result.now c.remove-c.new.self at c.index_mut.ensures.value c.remove-c.ensures.items c.remove-c.ensures.spare in
    ap (λ (ns : List Node). has_box ns to) (c.deref-4.ensures.value ∙ one) ∙ has-change (is_box b) (without_cond i) to xs (λ n. refl) ∙ ap (λ (g : QueryGraph). has_box g.boxes to) c.self.view_is ∙ c.requires.to

pub push-requires-clause-spare : goal.push-requires-clause-spare
push-requires-clause-spare c =
    let xs = c.self.inside.nodes.items in
    let b = c.args.b in
    let i = c.args.i - 1 in
    let to = c.args.to in
    let at = rw c.deref-3.ensures.value at c.box_place-from.ensures.first in
    let one = cond-taken b i c.box_place-from.result xs c.index_mut.result.now c.remove-c.new.self at c.index_mut.ensures.value c.remove-c.ensures.items c.remove-c.ensures.spare in
    let there = rw c.deref-4.ensures.value at c.box_place-k.ensures.first in
    let m = c.index_mut-2.result.now in
    let e : m.parts.conds.spare ≡ spare_in (first (is_box to) c.args.self.now.boxes) =
    ap (λ (o : Option Node). spare_in o) (ap (λ (n : Node). Some n) c.index_mut-2.ensures.value ∙ sym (there.1 m) ∙ ap (λ (ns : List Node). first (is_box to) ns) one)
    ∙ spare-without b to i xs ∙ ap (λ (g : QueryGraph). spare_in (first (is_box to) g.boxes)) c.self.view_is in
    subst (λ (m : ℕ). 1 ≤ m) (sym e) c.requires.room

pub remove-c-requires-clause-within : goal.remove-c-requires-clause-within
remove-c-requires-clause-within c = grind (arith, common_steps)

pub invariant_of-self : goal.invariant_of-self
invariant_of-self c =
    let xs = c.self.inside.nodes.items in
    let b = c.args.b in
    let i = c.args.i - 1 in
    let to = c.args.to in
    let at = rw c.deref-3.ensures.value at c.box_place-from.ensures.first in
    let one = cond-taken b i c.box_place-from.result xs c.index_mut.result.now c.remove-c.new.self at c.index_mut.ensures.value c.remove-c.ensures.items c.remove-c.ensures.spare in
    let there = rw c.deref-4.ensures.value at c.box_place-k.ensures.first in
    let t = cond c.remove-c.result in
    let two = cond-put to c.box_place-k.result t _ c.index_mut-2.result.now c.push.new.self there c.index_mut-2.ensures.value c.push.ensures.items c.push.ensures.spare in
    let all = two ∙ ap (λ (ns : List Node). change (is_box to) (with_cond t) ns) one in
    let q = c.self.inside.next_quant in
    let m = rw c.deref.ensures.value at c.mark.ensures in
    let l = rw c.deref-2.ensures.value at c.mark-2.ensures in
    subst (λ (ns : List Node). Sound c.mark-2.new.self q ns) (sym all)
    (sound-both b to (without_cond i) (with_cond t) xs c.self.inside.slots c.mark.new.self c.mark-2.new.self q (λ n. refl) (λ n. refl) (λ n. refl) (λ n. refl) (λ n. refl) (λ n. refl) m l c.self.invariant)

pub returns-clause-graph : goal.returns-clause-graph
returns-clause-graph c =
    let xs = c.self.inside.nodes.items in
    let b = c.args.b in
    let i = c.args.i - 1 in
    let to = c.args.to in
    let at = rw c.deref-3.ensures.value at c.box_place-from.ensures.first in
    let one = cond-taken b i c.box_place-from.result xs c.index_mut.result.now c.remove-c.new.self at c.index_mut.ensures.value c.remove-c.ensures.items c.remove-c.ensures.spare in
    let there = rw c.deref-4.ensures.value at c.box_place-k.ensures.first in
    let t = cond c.remove-c.result in
    let two = cond-put to c.box_place-k.result t _ c.index_mut-2.result.now c.push.new.self there c.index_mut-2.ensures.value c.push.ensures.items c.push.ensures.spare in
    let all = two ∙ ap (λ (ns : List Node). change (is_box to) (with_cond t) ns) one in
    let taken : cond_at b i xs ≡ Some t = ap (λ (o : Option Node). slice_get (conds_in o) i) (at.1 c.index_mut.result.now ∙ ap (λ (n : Node). Some n) (sym c.index_mut.ensures.value)) ∙ c.remove-c.ensures.taken in
    let rest = change (is_box b) (without_cond i) xs in
    ap {B = QueryGraph} (λ (ns : List Node). record { boxes = ns; root = c.self.inside.root; names = c.self.inside.names; order = c.self.inside.order }) (all ∙ sym (ap (λ (o : Option Cond). put_cond_found to o rest) taken))
    ∙ ap {B = QueryGraph} (λ (g : QueryGraph). move_conjunct b i to g) c.self.view_is

pub returns-clause-kept : goal.returns-clause-kept
returns-clause-kept c =
    let g = c.args.self.now in
    let xs = c.self.inside.nodes.items in
    let b = c.args.b in
    let i = c.args.i - 1 in
    let to = c.args.to in
    let t = cond c.remove-c.result in
    let at = rw c.deref-3.ensures.value at c.box_place-from.ensures.first in
    let taken : cond_at b i xs ≡ Some t = ap (λ (o : Option Node). slice_get (conds_in o) i) (at.1 c.index_mut.result.now ∙ ap (λ (n : Node). Some n) (sym c.index_mut.ensures.value)) ∙ c.remove-c.ensures.taken in
    let there : cond_at b i g.boxes ≡ Some t = sym (ap (λ (g : QueryGraph). cond_at b i g.boxes) c.self.view_is) ∙ taken in
    let ns = change (is_box b) (without_cond i) g.boxes in
    subst (λ (h : QueryGraph). HasAll g h) (sym (returns-clause-graph c ∙ ap {B = QueryGraph} (λ (o : Option Cond). record g { boxes = put_cond_found to o ns }) there))
    (all-then g.boxes ns (change (is_box to) (with_cond t) ns)
    (all-parts (is_box b) (without_cond i) g.boxes (λ n. refl) (λ n. refl))
    (all-parts (is_box to) (with_cond t) ns (λ n. refl) (λ n. refl)))

pub mark-requires-clause-below : goal.mark-requires-clause-below
mark-requires-clause-below c = under-held (length c.self.inside.slots.lists) c.self.inside.nodes.items c.args.b c.self.invariant.0.0 (subst (λ (g : QueryGraph). HasBox c.args.b g) (sym c.self.view_is) c.requires.from)

pub mark-requires-clause-numbers : goal.mark-requires-clause-numbers
mark-requires-clause-numbers c = subst (λ (ns : List Node). Under (length c.self.inside.slots.lists) (numbers ns)) (sym c.deref.ensures.value) c.self.invariant.0.0

pub mark-requires-2-clause-below : goal.mark-requires-2-clause-below
mark-requires-2-clause-below c = subst (λ (m : ℕ). c.args.to < m) (sym c.mark.ensures.2) (under-held (length c.self.inside.slots.lists) c.self.inside.nodes.items c.args.to c.self.invariant.0.0 (subst (λ (g : QueryGraph). HasBox c.args.to g) (sym c.self.view_is) c.requires.to))

pub mark-requires-2-clause-numbers : goal.mark-requires-2-clause-numbers
mark-requires-2-clause-numbers c = subst (λ (m : ℕ). Under m (numbers c.deref-2.result.now)) (sym c.mark.ensures.2) (subst (λ (ns : List Node). Under (length c.self.inside.slots.lists) (numbers ns)) (sym c.deref-2.ensures.value) c.self.invariant.0.0)
