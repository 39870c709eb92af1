use Rattle.std.proofs.Common.{◌≡◌, ◌∙◌, List, ap, filter, rules, sym, subst, length, refl, ◌≤◌}
use Rattle.std.proofs.lemmas.Fn.{filter_same}
use Rattle.qgm_core.specs.Boxes.{QueryGraph, ids_in, numbers}
use Rattle.qgm_core.specs.Edits.{keep}
use Rattle.list_laws.specs.Lists.{holds}
use Rattle.qgm_core.specs.declared.node.Node.{Node}
use Rattle.qgm_core.proofs.Kept.{numbered-filter}
use Rattle.qgm_core.specs.Slots.{Sound, EachSlotOnce}
use Rattle.qgm_core.proofs.Slotted.{once-same}
use Rattle.qgm_core.proofs.SlotEdits.{sound-kept}
use Rattle.qgm_core.specs.Numbered.{Under}
use Rattle.qgm_core.proofs.graph.Graph.keep.Goals as goal

pub invariant_of-self : goal.invariant_of-self
invariant_of-self c =
    let marked = λ (n : Node). holds n.id c.args.marks.now in
    let kept : c.retain.new.self.items ≡ filter marked c.self.inside.nodes.items = filter_same _ marked _ (λ n b f' k. search rules) _ _ c.retain.ensures.filtered in
    let xs = c.self.inside.nodes.items in
    let t = c.self.inside.slots in
    let q = c.self.inside.next_quant in
    let m = rw c.deref.ensures.value at c.mark_unmarked.ensures in
    let given = rw c.deref-2.ensures.value at c.give_back_unmarked.ensures.vacant in
    let d = rw (c.deref-3.ensures.value ∙ kept) at c.recount.ensures in
    subst (λ (ns : List Node). Sound c.recount.new.self q ns) (sym kept)
    (sound-kept marked xs t c.mark_unmarked.new.self c.give_back_unmarked.new.self c.recount.new.self q m given c.give_back_unmarked.ensures.rest.1 d c.self.invariant)

pub returns : goal.returns
returns c =
    let marked = λ (n : Node). holds n.id c.args.marks.now in
    let kept : c.retain.new.self.items ≡ filter marked c.self.inside.nodes.items = filter_same _ marked _ (λ n b f' k. search rules) _ _ c.retain.ensures.filtered in
    ap {B = QueryGraph} (λ (ns : List Node). record { boxes = ns; root = c.self.inside.root; names = c.self.inside.names; order = c.self.inside.order }) kept
    ∙ ap {B = QueryGraph} (λ (g : QueryGraph). keep c.args.marks.now g) c.self.view_is

pub give_back_unmarked-requires : goal.give_back_unmarked-requires
give_back_unmarked-requires c =
    let a = c.mark_unmarked.ensures in
    subst (λ (ns : List Node). EachSlotOnce c.mark_unmarked.new.self ns) (sym c.deref-2.ensures.value)
    (once-same c.self.inside.slots c.mark_unmarked.new.self c.self.inside.nodes.items c.self.inside.nodes.items a.1 a.2 (λ x. refl) c.self.invariant.1.0)

pub recount-requires : goal.recount-requires
recount-requires c =
    let marked = λ (n : Node). holds n.id c.args.marks.now in
    let kept : c.retain.new.self.items ≡ filter marked c.self.inside.nodes.items = filter_same _ marked _ (λ n b f' k. search rules) _ _ c.retain.ensures.filtered in
    let xs = c.self.inside.nodes.items in
    let t = c.self.inside.slots in
    let q = c.self.inside.next_quant in
    subst (λ (ns : List Node). length (ids_in ns) ≤ q) (sym (c.deref-3.ensures.value ∙ kept)) (numbered-filter marked (length t.lists) q xs c.self.invariant.0).3

pub mark_unmarked-requires : goal.mark_unmarked-requires
mark_unmarked-requires c = subst (λ (ns : List Node). Under (length c.self.inside.slots.lists) (numbers ns)) (sym c.deref.ensures.value) c.self.invariant.0.0
