use Rattle.std.proofs.Common.{◌<◌, ◌≤◌, ◌-◌, List, length, arith, subst, sym}
use Rattle.std.proofs.lemmas.Grind.{common_steps}
use Rattle.qgm_terms.proofs.Most.{most_at, most_removed}
use Rattle.qgm_terms.proofs.Removed.{slice_get-map}
use Rattle.qgm_terms.specs.Depth.{cond_depths, depth_cond, most, room}
use Rattle.qgm_terms.specs.Shown.{cond}
use Rattle.qgm_terms.specs.declared.tree.Gc.{Gc}
use Rattle.qgm_terms.proofs.parts.Conds.remove.Goals as goal

pub invariant_of-self : goal.invariant_of-self
invariant_of-self c = (
  omega (arith, c.remove.ensures.len, c.remove.ensures.capacity, c.self.invariant.0),
  subst (λ (ps : List Gc). most (cond_depths ps) ≤ room) (sym c.remove.ensures.items) (most_removed depth_cond c.self.inside.conds.items (c.args.i - 1) room c.self.invariant.1),
)

pub returns-clause-taken : goal.returns-clause-taken
returns-clause-taken c =
    let in_range : c.args.i - 1 < length c.self.inside.conds.items = grind (arith, common_steps) in
    let at = slice_get-map cond c.self.inside.conds.items (c.args.i - 1) c.remove.result in_range c.remove.ensures.value in
    grind (arith, common_steps, at)

pub returns-clause-depth : goal.returns-clause-depth
returns-clause-depth c =
    let in_range : c.args.i - 1 < length c.self.inside.conds.items = grind (arith, common_steps) in
    subst (λ (p : Gc). depth_cond p ≤ room) (sym c.remove.ensures.value) (most_at depth_cond c.self.inside.conds.items (c.args.i - 1) room c.remove.result in_range c.self.invariant.1)

pub remove-requires : goal.remove-requires
remove-requires c = grind (arith, common_steps)
