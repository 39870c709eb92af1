use Rattle.std.proofs.Common.{◌+◌, ◌++◌, arith, drop}
use Rattle.std.proofs.lemmas.List.{drop_all}
use Rattle.row_bag.specs.RowRefs.{lent}
use Rattle.row_bag.specs.Sets.{same_cells}
use Rattle.row_bag.proofs.GreatestLevels.{levels-refl}
use Rattle.row_bag.proofs.Keeping.{keep-more, levels-end}
use Rattle.row_bag.proofs.Places.{from-place}
use Rattle.row_bag.proofs.sets.keep_each.Goals as goal

pub loop-i-init : goal.loop-i-init
loop-i-init c = record {
  index = c.requires;
  levels = levels-refl same_cells (c.args.kept.now ++ c.args.rows.now);
  once = λ h. h;
}

pub loop-i-preserved : goal.loop-i-preserved
loop-i-preserved c = record {
  index = c.in_ok-keep.ensures.index;
  levels = keep-more c.loop-i.kept c.keep.new.kept (drop c.loop-i.i c.args.rows.now) (drop (c.loop-i.i + 1) c.args.rows.now) (c.args.kept.now ++ c.args.rows.now) (lent c.at.result) (from-place c.args.rows.now c.loop-i.i (lent c.at.result) c.at.ensures) c.in_ok-keep.ensures.levels c.loop-i.invariant.levels;
  once = λ h. c.in_ok-keep.ensures.once (c.loop-i.invariant.once h);
}

pub returns-clause-levels : goal.returns-clause-levels
returns-clause-levels c =
    levels-end c.loop-i.kept (drop c.loop-i.i c.args.rows.now) (c.args.kept.now ++ c.args.rows.now) (drop_all c.loop-i.i c.args.rows.now (omega (arith, c.len-i-end.ensures, c.loop-i-test.false))) c.loop-i.invariant.levels

pub returns-clause-once : goal.returns-clause-once
returns-clause-once c = c.loop-i.invariant.once
