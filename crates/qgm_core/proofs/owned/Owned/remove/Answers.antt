use Rattle.std.proofs.Common.{List, ℕ, map, sym, ◌∙◌, ap, arith}
use Rattle.std.specs.List.{remove}
use Rattle.qgm_core.specs.declared.owned.OwnedQuant.{OwnedQuant}
use Rattle.qgm_core.proofs.Fresh.{map_remove}
use Rattle.std.proofs.lemmas.Grind.{common_steps}
use Rattle.qgm_core.proofs.owned.Owned.remove.Goals as goal

pub invariant_of-self : goal.invariant_of-self
invariant_of-self c =
    let i = c.range_place-i.result in
    c.remove.ensures
    ∙ ap (λ (qs : List ℕ). remove qs i) c.self.invariant
    ∙ map_remove (λ (r : OwnedQuant). r.id) c.self.inside.ranges.items i
    ∙ ap (λ (rs : List OwnedQuant). map (λ r. r.id) rs) (sym c.remove-dropped.ensures.items)

pub remove-requires : goal.remove-requires
remove-requires c = grind (arith, common_steps)
