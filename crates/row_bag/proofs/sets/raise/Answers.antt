use Rattle.row_bag.specs.RowRefs.{lent}
use Rattle.row_bag.proofs.Keeping.{raised-at, raised-tuples, raised-within}
use Rattle.row_bag.proofs.sets.raise.Goals as goal

pub raise-requires : goal.raise-requires
raise-requires c = raised-within c.args.kept.now c.args.place (lent c.args.row) c.requires

pub returns-clause-tuples : goal.returns-clause-tuples
returns-clause-tuples c = raised-tuples c.args.kept.now c.raise.new.self c.args.place (lent c.args.row) c.requires c.raise.ensures

pub returns-clause-levels : goal.returns-clause-levels
returns-clause-levels c = raised-at c.args.kept.now c.raise.new.self c.args.place (lent c.args.row) c.requires c.raise.ensures
