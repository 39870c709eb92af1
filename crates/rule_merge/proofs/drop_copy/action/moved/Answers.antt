use Rattle.std.proofs.Common.{arith}
use Rattle.std.proofs.lemmas.Grind.{common_steps}
use Rattle.rule_merge.proofs.DropCopyTurned.{over_has, turned_held}
use Rattle.rule_merge.proofs.drop_copy.action.moved.Goals as goal

pub turn-requires-clause-quants : goal.turn-requires-clause-quants
turn-requires-clause-quants c = grind (arith, common_steps, over_has, turned_held)

pub drop_box-requires : goal.drop_box-requires
drop_box-requires c = grind (arith, common_steps, over_has, turned_held)

pub returns-clause-ok : goal.returns-clause-ok
returns-clause-ok c = grind (arith, common_steps)
