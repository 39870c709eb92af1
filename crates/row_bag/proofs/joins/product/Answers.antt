use Rattle.std.proofs.Common.{◌+◌, drop}
use Rattle.row_bag.specs.Joins.{product}
use Rattle.row_bag.specs.RowRefs.{lent}
use Rattle.row_bag.proofs.Places.{from-place}
use Rattle.row_bag.proofs.Products.{product-more}
use Rattle.row_bag.proofs.joins.product.Goals as goal

pub loop-i-preserved : goal.loop-i-preserved
loop-i-preserved c =
    let xs = c.args.xs.now in
    let ys = c.args.ys.now in
    product-more c.loop-i.made c.append_kept.new.out c.in_ok-row.row (drop c.loop-i.i xs) (drop (c.loop-i.i + 1) xs) ys (product xs ys) (lent c.at-x.result) (from-place xs c.loop-i.i (lent c.at-x.result) c.at-x.ensures)
    c.in_ok-row.ensures c.in_ok-append_kept.ensures c.loop-i.invariant
