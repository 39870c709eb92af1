use Rattle.row_bag.proofs.Order.{by-ties, by-total}
use Rattle.row_bag.proofs.row.order_by.Goals as goal

pub returns-clause-total : goal.returns-clause-total
returns-clause-total c = by-total c.args.keys.now

pub returns-clause-ties : goal.returns-clause-ties
returns-clause-ties c = by-ties c.args.keys.now
