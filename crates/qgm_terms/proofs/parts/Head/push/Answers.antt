use Rattle.std.proofs.Common.{◌≤◌, arith}
use Rattle.std.proofs.lemmas.Grind.{common_steps}
use Rattle.qgm_terms.proofs.Most.{most_after}
use Rattle.qgm_terms.specs.Depth.{depth, room}
use Rattle.qgm_terms.proofs.parts.Head.push.Goals as goal

pub invariant_of-self-2 : goal.invariant_of-self-2
invariant_of-self-2 c =
    let fits : depth c.args.x ≤ room = grind (arith, common_steps) in
    most_after depth _ _ _ _ room c.push.ensures.items c.self.invariant fits

pub returns-clause-ok : goal.returns-clause-ok
returns-clause-ok c = grind (arith, common_steps)

pub invariant_of-self : goal.invariant_of-self
invariant_of-self c = grind (arith, common_steps)
