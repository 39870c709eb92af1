use Rattle.std.proofs.Common.{◌≡◌, ◌<◌, List, length, map, ap, ◌∙◌, arith}
use Rattle.std.proofs.Math.ListN.{set, length-set}
use Rattle.std.proofs.lemmas.List.Edits.{map_over_more}
use Rattle.qgm_core.specs.Edits.{shift_node}
use Rattle.qgm_core.specs.declared.node.Node.{Node}
use Rattle.qgm_terms.specs.Conjuncts.{Conjuncts}
use Rattle.qgm_terms.specs.Shift.{shifted}
use Rattle.qgm_terms.specs.Terms.{Term}
use Rattle.qgm_core.proofs.Changed.{same_conds}
use Rattle.std.proofs.lemmas.Grind.{common_steps}
use Rattle.qgm_core.proofs.shifted.shift_nodes.Goals as goal

pub loop-i-preserved : goal.loop-i-preserved
loop-i-preserved c =
    let f = shift_node c.args.k c.args.q in
    let i = c.loop-i.i in
    let ns = c.loop-i.nodes.items in
    let same = c.loop-i.invariant.same in
    let l : i < length c.args.nodes.now.items = omega (arith, same, c.loop-i-test.true) in
    let n = c.index_mut.result.now in
    let conds = same_conds c.shift-in-loop-i.new.self _ c.shift-in-loop-i.ensures.items c.shift-in-loop-i.ensures.spare in
    let one : record n { parts = record n.parts { head = c.shift.new.self; conds = c.shift-in-loop-i.new.self } } ≡ f n =
    ap {B = Node} (λ (cells : List Term). record n { parts = record n.parts { head = cells; conds = c.shift-in-loop-i.new.self } }) c.shift.ensures
    ∙ ap {B = Node} (λ (cs : Conjuncts). record n { parts = record n.parts { head = map (shifted c.args.q c.args.k) n.parts.head; conds = cs } }) conds in
    record {
      so_far = ap (λ (n : Node). set ns i n) one ∙ map_over_more f c.args.nodes.now.items ns i c.index_mut.result.now l c.loop-i.invariant.so_far c.index_mut.ensures.value;
      same = simp length-set same;
    }

pub returns : goal.returns
returns c = grind (arith, common_steps)
