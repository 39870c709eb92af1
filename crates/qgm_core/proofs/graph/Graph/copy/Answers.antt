use Rattle.std.proofs.Common.{arith, subst, sym, ◌∙◌}
use Rattle.std.proofs.lemmas.Grind.{common_steps}
use Rattle.qgm_core.specs.Slots.{SlotTable, Sound}
use Rattle.qgm_core.proofs.graph.Graph.copy.Goals as goal

pub invariant_of-result : goal.invariant_of-result
invariant_of-result c =
    subst (Sound c.in_ok-slots.slots c.self.inside.next_quant) (sym (c.in_ok-nodes.ensures ∙ c.deref.ensures.value))
    (subst (λ (t : SlotTable). Sound t c.self.inside.next_quant c.self.inside.nodes.items) (sym c.in_ok-slots.ensures) c.self.invariant)

pub returns : goal.returns
returns c = grind (arith, common_steps)
