use Rattle.std.proofs.Common.{◌≡◌, ◌<◌, ◌≤◌, List, Some, length, ap, sym, ◌∙◌, subst, arith}
use Rattle.qgm_core.specs.Boxes.{is_quant}
use Rattle.qgm_core.specs.Edits.{put_range, without_quant}
use Rattle.list_laws.specs.Lists.{first, moved_to}
use Rattle.qgm_core.specs.declared.node.Node.{Node}
use Rattle.qgm_core.specs.declared.owned.OwnedQuant.{OwnedQuant}
use Rattle.qgm_core.proofs.Changed.{found}
use Rattle.qgm_core.proofs.Requanted.{moved-other, moved-same, places-other, places-same}
use Rattle.std.proofs.lemmas.Grind.{common_steps}
use Rattle.qgm_core.proofs.moves.move_quant.Goals as goal

pub move_to-requires-clause-within : goal.move_to-requires-clause-within
move_to-requires-clause-within c =
    let xs = c.args.nodes.now.items in
    let own = rw c.deref.ensures.value at c.owner_place-from.ensures in
    let at = rw c.deref-2.ensures.value at c.box_place-to.ensures.at in
    let k = c.owner_place-from.result in
    let j = c.box_place-to.result in
    let d = c.index_mut.result.now in
    let e = places-same c.args.q c.args.b xs k j d own (sym at) c.if-from-to.true in
    let w = c.requires.within in
    subst (λ (n : Node). c.args.i < length n.quants) (sym c.index_mut.ensures.value) (omega (arith, e, w))

pub returns-then-from-to-clause-ok : goal.returns-then-from-to-clause-ok
returns-then-from-to-clause-ok c =
    let xs = c.args.nodes.now.items in
    let own = rw c.deref.ensures.value at c.owner_place-from.ensures in
    let at = rw c.deref-2.ensures.value at c.box_place-to.ensures.at in
    let k = c.owner_place-from.result in
    let j = c.box_place-to.result in
    let d = c.index_mut.result.now in
    let r = found (is_quant c.args.q) _ (own.2 d) in
    moved-same c.args.q c.args.b xs k j d own (sym at) c.args.i r.0 r.1 _ c.if-from-to.true
    (ap {B = Node} (λ (rs : List OwnedQuant). record d { quants = rs }) c.move_to.ensures ∙ ap (λ (n : Node). record n { quants = moved_to (is_quant c.args.q) c.args.i n.quants }) c.index_mut.ensures.value)

pub insert-requires : goal.insert-requires
insert-requires c =
    let xs = c.args.nodes.now.items in
    let own = rw c.deref.ensures.value at c.owner_place-from.ensures in
    let at = rw c.deref-2.ensures.value at c.box_place-to.ensures.at in
    let k = c.owner_place-from.result in
    let j = c.box_place-to.result in
    let d = c.index_mut-2.result.now in
    let e = places-other c.args.q c.args.b xs k j d own (sym at) c.if-from-to.false in
    let w = c.requires.within in
    subst (λ (n : Node). c.args.i ≤ length n.quants) (sym c.index_mut-2.ensures.value) (omega (arith, e, w))

pub returns-clause-ok : goal.returns-clause-ok
returns-clause-ok c =
    let xs = c.args.nodes.now.items in
    let q = c.args.q in
    let own = rw c.deref.ensures.value at c.owner_place-from.ensures in
    let at = rw c.deref-2.ensures.value at c.box_place-to.ensures.at in
    let k = c.owner_place-from.result in
    let j = c.box_place-to.result in
    let d = c.index.result.now in
    let r : OwnedQuant = c.range_of-range.result in
    let one : first (is_quant q) d.quants ≡ Some r = sym (c.range_of-range.ensures ∙ ap (λ (rs : List OwnedQuant). first (is_quant q) rs) c.as_slice.ensures) in
    moved-other q c.args.b xs k j d own (sym at) c.args.i r (ap (λ (n : Node). first (is_quant q) n.quants) (sym c.index.ensures) ∙ one)
    _ _ c.index_mut-2.result.now c.index_mut-3.result.now c.if-from-to.false
    (ap {B = Node} (λ (rs : List OwnedQuant). record c.index_mut-2.result.now { quants = rs }) c.in_ok-insert.ensures.ok ∙ ap (put_range c.args.i r) c.index_mut-2.ensures.value)
    (ap {B = Node} (λ (rs : List OwnedQuant). record c.index_mut-3.result.now { quants = rs }) c.remove.ensures ∙ ap (without_quant q) c.index_mut-3.ensures.value)

pub returns-in_err-insert-clause-err : goal.returns-in_err-insert-clause-err
returns-in_err-insert-clause-err c = grind (arith, common_steps)

pub remove-requires : goal.remove-requires
remove-requires c = grind (arith, common_steps)

pub index_mut-requires-3 : goal.index_mut-requires-3
index_mut-requires-3 c = grind (arith, common_steps)
