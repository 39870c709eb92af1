use Rattle.std.proofs.lemmas.Grind.{common_steps}
use Rattle.std.proofs.Common.{List, ap, sym, subst, refl, ◌≡◌, ◌-◌, ◌∙◌, arith, length}
use Rattle.qgm_core.specs.Boxes.{QueryGraph, is_box, HasBox, numbers}
use Rattle.qgm_core.specs.Edits.{drop_column, quants_over, shifted_over, without_cell}
use Rattle.qgm_core.specs.declared.node.Node.{Node}
use Rattle.std.proofs.Math.ListN.{set}
use Rattle.qgm_terms.specs.Terms.{Term}
use Rattle.qgm_core.specs.Held.{HasAll}
use Rattle.list_laws.specs.Lists.{change}
use Rattle.qgm_core.proofs.Held.{all-parts, all-shifted, all-then}
use Rattle.qgm_core.specs.Slots.{Sound}
use Rattle.qgm_core.proofs.SlotEdits.{sound-shifted}
use Rattle.qgm_core.specs.Numbered.{Under}
use Rattle.qgm_core.proofs.Slotted.{under-held}
use Rattle.qgm_core.proofs.graph.Graph.drop_column.Goals as goal

pub invariant_of-self : goal.invariant_of-self
invariant_of-self c =
    let at = rw c.deref-2.ensures.value at c.box_place-i.ensures.first in
    let n = c.index_mut.result.now in
    let b = c.args.b in
    let k = c.args.k in
    let q = c.self.inside.next_quant in
    let f = without_cell (k - 1) in
    let xs = c.self.inside.nodes.items in
    let same : set xs c.box_place-i.result (record n { parts = record n.parts { head = c.remove.new.self } }) ≡ change (is_box b) f xs = at.3 f _ n (ap {B = Node} (λ (cells : List Term). record n { parts = record n.parts { head = cells } }) c.remove.ensures ∙ ap f c.index_mut.ensures.value) in
    let m = rw c.deref.ensures.value at c.mark.ensures in
    subst (λ (ns : List Node). Sound c.mark.new.self q ns) (sym (c.shift_over.ensures ∙ ap (λ (ns : List Node). shifted_over b k ns) same))
    (sound-shifted k b f xs c.self.inside.slots c.mark.new.self q (λ n. refl) (λ n. refl) (λ n. refl) m c.self.invariant)

pub returns-clause-graph : goal.returns-clause-graph
returns-clause-graph c =
    let at = rw c.deref-2.ensures.value at c.box_place-i.ensures.first in
    let n = c.index_mut.result.now in
    let b = c.args.b in
    let k = c.args.k in
    let f = without_cell (k - 1) in
    let xs = c.self.inside.nodes.items in
    let same : set xs c.box_place-i.result (record n { parts = record n.parts { head = c.remove.new.self } }) ≡ change (is_box b) f xs = at.3 f _ n (ap {B = Node} (λ (cells : List Term). record n { parts = record n.parts { head = cells } }) c.remove.ensures ∙ ap f c.index_mut.ensures.value) in
    ap {B = QueryGraph} (λ (ns : List Node). record { boxes = ns; root = c.self.inside.root; names = c.self.inside.names; order = c.self.inside.order }) (c.shift_over.ensures ∙ ap (λ (ns : List Node). shifted_over b k ns) same)
    ∙ ap {B = QueryGraph} (λ (g : QueryGraph). drop_column b k g) c.self.view_is

pub returns-clause-kept : goal.returns-clause-kept
returns-clause-kept c =
    let g = c.args.self.now in
    let ns = change (is_box c.args.b) (without_cell (c.args.k - 1)) g.boxes in
    subst (λ (h : QueryGraph). HasAll g h) (sym (returns-clause-graph c))
    (all-then g.boxes ns (shifted_over c.args.b c.args.k ns) (all-parts (is_box c.args.b) (without_cell (c.args.k - 1)) g.boxes (λ n. refl) (λ n. refl)) (all-shifted c.args.k (quants_over c.args.b ns) ns))

pub remove-requires-clause-within : goal.remove-requires-clause-within
remove-requires-clause-within c = grind (arith, common_steps)

pub mark-requires-clause-below : goal.mark-requires-clause-below
mark-requires-clause-below c = under-held (length c.self.inside.slots.lists) c.self.inside.nodes.items c.args.b c.self.invariant.0.0 (subst (λ (g : QueryGraph). HasBox c.args.b g) (sym c.self.view_is) c.requires.held)

pub mark-requires-clause-numbers : goal.mark-requires-clause-numbers
mark-requires-clause-numbers c = subst (λ (ns : List Node). Under (length c.self.inside.slots.lists) (numbers ns)) (sym c.deref.ensures.value) c.self.invariant.0.0
