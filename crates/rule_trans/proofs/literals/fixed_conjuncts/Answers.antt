use Rattle.std.proofs.Common.{◌+◌, arith}
use Rattle.std.proofs.lemmas.Grind.{common_steps}
use Rattle.rule_trans.proofs.FixedPlaces.{numbered_next}
use Rattle.rule_trans.proofs.literals.fixed_conjuncts.Goals as goal
use Rattle.rule_trans.proofs.literals.fixed_conjuncts.Goals.{in-Some+in_ok-push, in_default}

pub loop-i-preserved : goal.loop-i-preserved
loop-i-preserved c =
    let next = numbered_next (c.loop-i.i + 1) c.args.list.now c.loop-i.i c.index-list-i.result c.loop-i-test.true c.index-list-i.is in
    elim c.match-fixed.branch [
      | in-Some+in_ok-push w ↦ grind (arith, common_steps, next)
      | in_default w ↦ grind (arith, common_steps, next)
    ]
