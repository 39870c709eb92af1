use Rattle.std.proofs.Common.{arith}
use Rattle.std.proofs.lemmas.Grind.{common_steps}
use Rattle.qgm_terms.proofs.Most.{most_after}
use Rattle.qgm_terms.specs.Depth.{depth_cond, room}
use Rattle.qgm_terms.proofs.parts.Conds.push.Goals as goal

pub invariant_of-self : goal.invariant_of-self
invariant_of-self c = (
  grind (arith, common_steps, c.push.ensures.upper_bound, c.push.ensures.capacity, c.self.invariant.0),
  most_after depth_cond _ _ _ _ room c.push.ensures.items c.self.invariant.1 c.requires.depth,
)

pub returns-clause-items : goal.returns-clause-items
returns-clause-items c = grind (arith, common_steps)

pub returns-clause-spare : goal.returns-clause-spare
returns-clause-spare c = grind (arith, common_steps)

pub overflow_sub-self : goal.overflow_sub-self
overflow_sub-self c = grind (arith, common_steps)
