use Rattle.std.proofs.Common.{arith}
use Rattle.row_bag.proofs.Keeping.{kept-whole}
use Rattle.row_bag.proofs.sets.distinct.Goals as goal

pub returns : goal.returns
returns c =
    let levels = rw c.new-kept.ensures at c.in_ok-keep_each.ensures.levels in
    let once = rw c.new-kept.ensures at c.in_ok-keep_each.ensures.once in
    rw c.those_there.ensures (kept-whole c.keep_each.new.kept c.args.bag levels (once (λ t. omega arith)))
