use Rattle.std.proofs.Common.{◌≡◌, ℕ, ◌==◌, List, None, Some, position, ap, sym, ◌∙◌, arith}
use Rattle.qgm_core.specs.Boxes.{is_box}
use Rattle.qgm_core.specs.declared.node.Node.{Node}
use Rattle.qgm_core.proofs.ByNumber.{position-numbers}
use Rattle.qgm_core.proofs.Visited.{first_none, first_some}
use Rattle.std.proofs.lemmas.Grind.{common_steps}
use Rattle.qgm_core.proofs.box_places.node_at.Goals as goal

pub returns-in-Some : goal.returns-in-Some
returns-in-Some c =
    let ns = c.args.nodes.now in
    let b = c.args.b in
    let at : position (is_box b) ns ≡ Some c.in-Some.i = sym (position-numbers b ns) ∙ sym (ap (λ (xs : List ℕ). position (λ x. x == b) xs) c.requires) ∙ sym c.find.ensures ∙ c.in-Some.is in
    ap (λ (n : Node). Some n) c.index-nodes-i.is ∙ sym (first_some b ns c.in-Some.i c.index-nodes-i.result at)

pub returns-in-None : goal.returns-in-None
returns-in-None c =
    let ns = c.args.nodes.now in
    let b = c.args.b in
    let at : position (is_box b) ns ≡ None = sym (position-numbers b ns) ∙ sym (ap (λ (xs : List ℕ). position (λ x. x == b) xs) c.requires) ∙ sym c.find.ensures ∙ c.in-None.is in
    sym (first_none b ns at)

pub bounds-nodes-i : goal.bounds-nodes-i
bounds-nodes-i c = grind (arith, common_steps)

pub offset_bounds-nodes-i : goal.offset_bounds-nodes-i
offset_bounds-nodes-i c = grind (arith, common_steps)
