use Rattle.std.proofs.Common.{◌-◌, arith, drop}
use Rattle.row_bag.proofs.Values.{drop-back, once-more}
use Rattle.std.proofs.lemmas.Grind.{common_steps}
use Rattle.row_bag.proofs.aggregates.once.Goals as goal

pub loop-i-preserved : goal.loop-i-preserved
loop-i-preserved c =
    let rows = c.args.rows.now in
    let i = c.loop-i.i in
    let r = c.index-rows-i.result in
    let some = c.loop-i-test.true in
    let low = c.loop-i.invariant.within in
    record {
      within = omega (arith, low);
      index = c.in_ok-keep_row.ensures.index;
      kept = once-more (drop i rows) (drop (i - 1) rows) c.loop-i.kept.items c.keep_row.new.kept.items r (drop-back rows i r some low c.index-rows-i.is) c.loop-i.invariant.kept c.in_ok-keep_row.ensures.kept;
    }

pub loop-i-init : goal.loop-i-init
loop-i-init c = grind (arith, common_steps)
