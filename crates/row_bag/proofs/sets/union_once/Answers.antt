use Rattle.std.proofs.Common.{◌++◌, arith}
use Rattle.row_bag.specs.Operands.{held}
use Rattle.row_bag.proofs.Keeping.{kept-whole, levels-both}
use Rattle.row_bag.proofs.sets.union_once.Goals as goal

pub returns : goal.returns
returns c =
    let first = rw (c.new-kept.ensures, c.rows-3.ensures) at c.in_ok-keep_each.ensures.levels in
    let second = rw c.rows-4.ensures at c.in_ok-keep_each-2.ensures.levels in
    let once = rw c.new-kept.ensures at c.in_ok-keep_each.ensures.once in
    let levels = levels-both c.keep_each.new.kept c.keep_each-2.new.kept (held c.args.a) (held c.args.b) first second in
    rw c.those_there.ensures (kept-whole c.keep_each-2.new.kept (held c.args.a ++ held c.args.b) levels (c.in_ok-keep_each-2.ensures.once (once (λ t. omega arith))))
