use Rattle.std.proofs.Common.{arith, ◌≡◌, ◌∷◌, [], ◌∙◌, subst, sym}
use Rattle.std.proofs.lemmas.Grind.{common_steps}
use Rattle.qgm_core.specs.Boxes.{bare_box}
use Rattle.qgm_core.specs.Slots.{Sound}
use Rattle.qgm_core.proofs.SlotEdits.{sound-one}
use Rattle.qgm_core.proofs.graph.Graph.new.Goals as goal

pub invariant_of-result : goal.invariant_of-result
invariant_of-result c =
    let same : c.push.new.self.items ≡ bare_box 0 c.args.root ∷ [] = grind (arith, common_steps) in
    let d = rw (c.deref.ensures.value ∙ same) at c.recount.ensures in
    subst (Sound c.recount.new.self 0) (sym same) (sound-one c.args.root c.in_ok-slots.slots c.recount.new.self c.in_ok-slots.ensures d)

pub returns-clause-graph : goal.returns-clause-graph
returns-clause-graph c = grind (arith, common_steps)

pub returns-clause-held : goal.returns-clause-held
returns-clause-held c = grind (arith, common_steps)
