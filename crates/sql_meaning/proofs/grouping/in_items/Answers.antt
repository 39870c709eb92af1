use Rattle.std.proofs.Common.{arith}
use Rattle.std.proofs.lemmas.Grind.{common_steps}
use Rattle.sql_meaning.proofs.grouping.in_items.Goals as goal

pub returns : goal.returns
returns c = grind (arith, common_steps)

pub offset_bounds-items-item-index : goal.offset_bounds-items-item-index
offset_bounds-items-item-index c = grind (arith, common_steps)

pub loop-item-preserved : goal.loop-item-preserved
loop-item-preserved c = grind (arith, common_steps)

pub returns-then-in_expr : goal.returns-then-in_expr
returns-then-in_expr c = grind (arith, common_steps)
