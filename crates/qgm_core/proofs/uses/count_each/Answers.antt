use Rattle.std.proofs.Common.{◌<◌, ◌+◌, get_or, length, refl, arith}
use Rattle.qgm_core.specs.declared.kinds.QuantKind.TheVariants.{F}
use Rattle.qgm_core.specs.declared.owned.OwnedQuant.{OwnedQuant}
use Rattle.qgm_core.proofs.Counted.{range-next, range-used, times-taken}
use Rattle.qgm_core.proofs.uses.count_each.Goals as goal

pub add_use-requires : goal.add_use-requires
add_use-requires c = λ l.
    let rs = c.args.ranges.now in
    let j = c.loop-range.range-index in
    let none : OwnedQuant = record { id = 0; kind = F; over = 0 } in
    let o = (get_or rs j none).over in
    let long = c.loop-range.invariant.long in
    let k : o < length c.args.uses.now.items = omega (arith, l, long) in
    let now = c.loop-range.invariant.counted o k in
    let used = range-used o rs j none c.loop-range-test.true refl in
    let some = times-taken o rs (j + 1) in
    let most = c.requires o k in
    omega (arith, now, used, some, most, c.ranges.most)

pub loop-range-preserved : goal.loop-range-preserved
loop-range-preserved c =
    let rs = c.args.ranges.now in
    let j = c.loop-range.range-index in
    let none : OwnedQuant = record { id = 0; kind = F; over = 0 } in
    let long = c.loop-range.invariant.long in
    let same = c.add_use.ensures.long in
    record {
      long = omega (arith, same, long);
      counted = λ x k. (
          let now = c.loop-range.invariant.counted x k in
          let next = range-next x rs j none c.loop-range-test.true in
          let one = c.add_use.ensures.counted x (omega (arith, k, long)) in
          omega (arith, now, next, one));
    }
