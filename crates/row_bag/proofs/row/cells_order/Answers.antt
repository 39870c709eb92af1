use Rattle.std.proofs.Common.{◌∙◌, sym, arith}
use Rattle.sql_value.specs.Cells.{cell_compare}
use Rattle.row_bag.proofs.Order.{compare-ends}
use Rattle.std.proofs.lemmas.Grind.{common_steps}
use Rattle.row_bag.proofs.row.cells_order.Goals as goal

pub returns : goal.returns
returns c =
    c.cmp.ensures
    ∙ sym (compare-ends cell_compare c.args.left.now c.args.right.now c.loop-i.i _ (omega (arith, c.loop-i-test.false, c.loop-i.auto.i-end, c.min-i-end.ensures)) c.loop-i.invariant)

pub loop-i-preserved : goal.loop-i-preserved
loop-i-preserved c = grind (arith, common_steps)

pub returns-then-ne : goal.returns-then-ne
returns-then-ne c = grind (arith, common_steps)
