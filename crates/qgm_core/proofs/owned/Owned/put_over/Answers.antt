use Rattle.std.proofs.Common.{sym, ◌∙◌, ap}
use Rattle.qgm_core.specs.declared.owned.OwnedQuant.{OwnedQuant}
use Rattle.qgm_core.proofs.Fresh.{ids-set}
use Rattle.qgm_core.proofs.owned.Owned.put_over.Goals as goal

pub invariant_of-self : goal.invariant_of-self
invariant_of-self c =
    let at = rw c.deref.ensures.value at c.range_place-i.ensures in
    c.self.invariant ∙ sym (ids-set c.self.inside.ranges.items c.range_place-i.result _ c.index_mut.result.now at.0 (ap (λ (r : OwnedQuant). r.id) c.index_mut.ensures.value))
