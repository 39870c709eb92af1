use Rattle.std.proofs.lemmas.Grind.{common_steps}
use Rattle.std.proofs.Common.{◌-◌, ◌≤◌, List, subst, sym, arith}
use Rattle.qgm_terms.proofs.Most.{most_removed}
use Rattle.qgm_terms.specs.Depth.{depth, depths, most, room}
use Rattle.qgm_terms.specs.declared.tree.Gx.{Gx}
use Rattle.qgm_terms.proofs.parts.Head.remove.Goals as goal

pub invariant_of-self : goal.invariant_of-self
invariant_of-self c =
    subst (λ (xs : List Gx). most (depths xs) ≤ room) (sym c.remove-dropped.ensures.items) (most_removed depth c.self.inside.terms.items (c.args.k - 1) room c.self.invariant)

pub remove-dropped-requires : goal.remove-dropped-requires
remove-dropped-requires c = grind (arith, common_steps)
