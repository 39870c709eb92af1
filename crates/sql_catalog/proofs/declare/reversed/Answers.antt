use Rattle.std.proofs.Common.{arith}
use Rattle.sql_catalog.proofs.SplitLaws.{item_moved}
use Rattle.std.proofs.lemmas.Grind.{common_steps}
use Rattle.sql_catalog.proofs.declare.reversed.Goals as goal

pub loop-item-preserved : goal.loop-item-preserved
loop-item-preserved g c = item_moved c.loop-item.left c.pop.new.self c.in-Some.item c.loop-item.all c.push.new.self _ c.in-Some.ensures c.in_ok-push.ensures.ok c.loop-item.invariant

pub loop-item-smaller : goal.loop-item-smaller
loop-item-smaller c = grind (arith, common_steps)

pub loop-item-init : goal.loop-item-init
loop-item-init g c = grind (arith, common_steps)

pub returns : goal.returns
returns g c = grind (arith, common_steps)
