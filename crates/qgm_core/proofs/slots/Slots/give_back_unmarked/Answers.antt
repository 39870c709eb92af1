use Rattle.std.proofs.Common.{ℕ, ◌≡◌, ◌+◌, ◌∙◌, List, Option, Some, ap, sym, filter, length, not, slice_get, take, arith}
use Rattle.qgm_core.specs.Boxes.{numbers}
use Rattle.list_laws.specs.Lists.{holds, times}
use Rattle.list_laws.proofs.Counting.{times-append}
use Rattle.qgm_core.specs.declared.node.Node.{Node}
use Rattle.qgm_core.proofs.Counted.{at-get}
use Rattle.qgm_core.proofs.Slotted.{given-back, room}
use Rattle.qgm_core.proofs.slots.Slots.give_back_unmarked.Goals as goal

pub give_back-requires : goal.give_back-requires
give_back-requires c =
    let ns = c.args.nodes.now in
    let i = c.loop-node.node-index in
    let n = c.node-item.result in
    let p = λ (n : Node). not (holds n.id c.args.marks.now) in
    let l = c.loop-node-test.true in
    let at : slice_get ns i ≡ Some n = at-get ns i n (omega (arith, l)) ∙ ap (λ (n : Node). Some n) (sym c.node-item.is) in
    let given = numbers (filter p (take i ns)) in
    let lists : length c.loop-node.self.lists ≡ length c.args.self.now.lists = ap (λ (ls : List (Option (List ℕ))). length ls) c.loop-node.invariant.lists in
    let k = room c.loop-node.self.vacant n.id (length c.args.self.now.lists) (λ x. (
    let e : times x c.loop-node.self.vacant ≡ times x c.args.self.now.vacant + times x given = ap (times x) c.loop-node.invariant.vacant ∙ times-append x c.args.self.now.vacant given in
    let g = given-back p x ns i n at in
    let o = c.requires x in
    omega (arith, e, g, o))) in
    omega (arith, k, lists)
