use Rattle.std.proofs.Common.{◌≤◌, List, arith, subst, sym}
use Rattle.std.proofs.lemmas.Grind.{common_steps}
use Rattle.qgm_terms.proofs.Most.{most_after}
use Rattle.qgm_terms.specs.Depth.{cond_depths, depth_cond, most, room}
use Rattle.qgm_terms.specs.declared.tree.Gc.{Gc}
use Rattle.qgm_terms.proofs.parts.Conds.add.Goals as goal

pub invariant_of-self-2 : goal.invariant_of-self-2
invariant_of-self-2 c =
    let was : most (cond_depths c.reserve.new.self.items) ≤ room = subst (λ (ps : List Gc). most (cond_depths ps) ≤ room) (sym c.reserve.ensures.items) c.self.invariant.1 in
    let fits : depth_cond c.args.c ≤ room = grind (arith, common_steps) in
    (omega (arith, c.push.ensures.upper_bound, c.push.ensures.capacity, c.in_ok-reserve.ensures.ok), most_after depth_cond _ _ _ _ room c.push.ensures.items was fits)

pub returns-clause-ok : goal.returns-clause-ok
returns-clause-ok c = grind (arith, common_steps)

pub invariant_of-self : goal.invariant_of-self
invariant_of-self c = grind (arith, common_steps)

pub returns-clause-spare : goal.returns-clause-spare
returns-clause-spare c = grind (arith, common_steps)
