use Rattle.std.proofs.Common.{◌≡◌, ◌+◌, List, Option, Some, insert, ap, sym, ◌∙◌, arith}
use Rattle.std.specs.Prelude.{IsOk}
use Rattle.qgm_core.specs.Boxes.{has_box, is_box}
use Rattle.qgm_core.specs.Edits.{put_found}
use Rattle.list_laws.specs.Lists.{put_below, without}
use Rattle.qgm_core.specs.declared.node.Node.{Node}
use Rattle.qgm_core.proofs.Changed.{has-without}
use Rattle.qgm_core.proofs.First.{goes_below}
use Rattle.qgm_core.proofs.Fresh.{if_ok}
use Rattle.qgm_core.proofs.moves.move_below.Goals as goal

pub box_place-k-requires : goal.box_place-k-requires
box_place-k-requires c =
    let xs = c.args.nodes.now.items in
    let at = rw c.deref.ensures.value at c.box_place-i.ensures.first in
    ap (λ (ns : List Node). has_box ns c.args.d) (c.deref-2.ensures.value ∙ c.remove-node.ensures.items ∙ at.4)
    ∙ has-without c.args.c c.args.d xs c.requires.apart ∙ c.requires.below

pub returns : goal.returns
returns c =
    let xs = c.args.nodes.now.items in
    let n : Node = c.remove-node.result in
    let d = is_box c.args.d in
    let at = rw c.deref.ensures.value at c.box_place-i.ensures.first in
    let k = rw c.deref-2.ensures.value at c.box_place-k.ensures.at in
    let len = c.remove-node.ensures.len in
    let room = c.remove-node.ensures.capacity in
    let done : IsOk c.insert.result = c.insert.ensures.succeeds (omega (arith, len, room, c.args.nodes.now.ok)) in
    let new : c.insert.new.self.items ≡ insert c.remove-node.new.self.items (c.box_place-k.result + 1) n = if_ok c.insert.result _ _ _ done c.insert.ensures.items in
    new
    ∙ goes_below d c.remove-node.new.self.items c.box_place-k.result n (sym k)
    ∙ ap (λ (ns : List Node). put_below d n ns) (c.remove-node.ensures.items ∙ at.4)
    ∙ sym (ap (λ (o : Option Node). put_found c.args.d o (without (is_box c.args.c) xs)) (at.1 n ∙ ap (λ (n : Node). Some n) (sym c.remove-node.ensures.value)))
