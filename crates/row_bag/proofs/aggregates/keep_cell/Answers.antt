use Rattle.std.proofs.Common.{arith}
use Rattle.row_bag.proofs.Values.{kept-already}
use Rattle.std.proofs.lemmas.Grind.{common_steps}
use Rattle.row_bag.proofs.aggregates.keep_cell.Goals as goal

pub returns-else-is_none-clause-kept : goal.returns-else-is_none-clause-kept
returns-else-is_none-clause-kept c =
    kept-already c.find.result c.is_none.result c.args.cell.now c.args.kept.now.items c.is_none.ensures c.if-is_none.false (rw c.from_ref-tuple.ensures.value at c.find.ensures.found)

pub returns-in_ok-push-2-clause-index : goal.returns-in_ok-push-2-clause-index
returns-in_ok-push-2-clause-index c = grind (arith, common_steps)

pub returns-in_ok-push-2-clause-kept : goal.returns-in_ok-push-2-clause-kept
returns-in_ok-push-2-clause-kept c = grind (arith, common_steps)
