use Rattle.std.proofs.Common.{◌≡◌, length, arith, subst, sym, ◌∙◌}
use Rattle.qgm_core.proofs.Stacked.{numbered-made}
use Rattle.std.proofs.lemmas.Grind.{common_steps}
use Rattle.qgm_core.specs.Slots.{Sound}
use Rattle.qgm_core.proofs.SlotEdits.{sound-made}
use Rattle.qgm_core.proofs.graph.Graph.of_boxes.Goals as goal

pub invariant_of-result : goal.invariant_of-result
invariant_of-result c =
    let made = c.args.made in
    let e : c.len-next_box.result ≡ length made.items = omega (arith, c.len-next_box.ensures, made.ok) in
    let same = c.in_ok-nodes.ensures in
    let d = rw (c.deref.ensures.value ∙ same) at c.recount.ensures in
    subst (Sound c.recount.new.self c.args.next_quant) (sym same)
    (sound-made c.len-next_box.result c.args.next_quant made.items c.in_ok-slots.slots c.recount.new.self e c.in_ok-slots.ensures d (numbered-made c.len-next_box.result c.args.next_quant made.items e c.requires.once c.requires.under))

pub returns : goal.returns
returns c = grind (arith, common_steps)

pub recount-requires : goal.recount-requires
recount-requires c =
    let made = c.args.made in
    let e : c.len-next_box.result ≡ length made.items = omega (arith, c.len-next_box.ensures, made.ok) in
    rw (c.deref.ensures.value ∙ c.in_ok-nodes.ensures) (numbered-made c.len-next_box.result c.args.next_quant made.items e c.requires.once c.requires.under).3
