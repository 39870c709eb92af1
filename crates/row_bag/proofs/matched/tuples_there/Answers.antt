use Rattle.std.proofs.lemmas.Option.{slice_get_within}
use Rattle.row_bag.proofs.Matching.{counts-more}
use Rattle.row_bag.specs.RowRefs.{lent}
use Rattle.row_bag.proofs.Places.{read-at}
use Rattle.row_bag.proofs.matched.tuples_there.Goals as goal

pub loop-i-preserved : goal.loop-i-preserved
loop-i-preserved c = λ t. counts-more t c.args.rows.now c.loop-i.i (lent c.at.result) _ _ (read-at c.args.rows.now c.loop-i.i (lent c.at.result) c.at.ensures) (slice_get_within c.args.rows.now c.loop-i.i (lent c.at.result) c.at.ensures) (c.in_ok-add_there.ensures t) (c.loop-i.invariant t)
